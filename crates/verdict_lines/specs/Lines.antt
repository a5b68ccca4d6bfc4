-- The line of a notion in a report (scope, "Report program and examples"; which operand leaks), over what the verdict and the set dependence are to
-- tell.
--     notion_name                    NI or SNI
--     broken_said                    the wires of a set that is shown, and these operands
--     said, verdict_said             what a verdict says
--     empty_set                      what is lent to it
--     notion_line                    the line
use Rattle.std.specs.Prelude.{ℕ, cond, List, [], ◌∷◌, ◌++◌, eqb, take, replicate}
use Rattle.limits.specs.Limits.{max_size}
use Rattle.basics.specs.Quoted.{bytes}
use Rattle.basics.specs.Told.{Told, Lent, values, refusal}
use Rattle.verdict_answers.specs.Answers.{verdict_of, set_dependence}
use Rattle.pages.specs.Decimal.{decimal}
use Rattle.pages.specs.Page.{wire_numbers}
use Rattle.operand_words.specs.Operands.{operands}

abbrev pub notion_name : ℕ → List ℕ
notion_name notion = cond (eqb notion 1) (bytes "NI") (bytes "SNI")

-- the numbers of the wires shown, and the operands that leak by them
abbrev pub broken_said : (List ℕ → Told) → List ℕ → List ℕ
broken_said depends set = bytes " broken" ++ wire_numbers set ++ operands (depends set)

-- holds, or broken with the set shown; of a table that was read no verdict is refused (`read_accepted`)
abbrev pub said : (List ℕ → Told) → Told → List ℕ → List ℕ
said depends (values []) set = bytes " holds"
said depends (values (size ∷ more)) set = broken_said depends (take size set)
said depends (refusal number) set = bytes " refused " ++ decimal number

abbrev pub verdict_said : (List ℕ → Told) → Lent → List ℕ
verdict_said depends lent = said depends lent.told lent.held

abbrev pub empty_set : List ℕ
empty_set = replicate max_size 0

unfoldable pub notion_line : List ℕ → ℕ → ℕ → ℕ → ℕ → List ℕ
notion_line table shares masks notion order =
    notion_name notion
    ++ verdict_said (set_dependence table shares masks notion) (verdict_of table shares masks notion order empty_set)
    ++ bytes "\n"
