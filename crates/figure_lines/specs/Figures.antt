-- The lines of a report in which there is no verdict (scope, "Report program and examples"), over what the function check is to tell.
--     order_line                     order, shares, mask count and wire count
--     says_yes, function_name, function_line     which function the function check says yes to
--     refused_line                   the one line of a text that is turned down
use Rattle.std.specs.Prelude.{ℕ, Bool, false, cond, List, [], ◌∷◌, ◌++◌, eqb}
use Rattle.basics.specs.Quoted.{bytes}
use Rattle.basics.specs.Told.{Told, values, refusal}
use Rattle.table.specs.Answers.{function_check}
use Rattle.pages.specs.Decimal.{decimal}

-- `order 1 shares 2 masks 1 wires 9`
abbrev pub order_line : ℕ → ℕ → ℕ → ℕ → List ℕ
order_line order shares masks wires =
    (bytes "order " ++ decimal order) ++ (bytes " shares " ++ decimal shares) ++ (bytes " masks " ++ decimal masks)
    ++ (bytes " wires " ++ decimal wires) ++ bytes "\n"

-- yes is 1
abbrev pub says_yes : Told → Bool
says_yes (values []) = false
says_yes (values (answer ∷ more)) = eqb answer 1
says_yes (refusal number) = false

-- function is product, sum, copy or other
abbrev pub function_name : List ℕ → ℕ → ℕ → List ℕ
function_name table shares masks =
    cond (says_yes (function_check table shares masks 1)) (bytes "product")
    (cond (says_yes (function_check table shares masks 2)) (bytes "sum")
    (cond (says_yes (function_check table shares masks 3)) (bytes "copy")
    (bytes "other")))

unfoldable pub function_line : List ℕ → ℕ → ℕ → List ℕ
function_line table shares masks = bytes "function " ++ function_name table shares masks ++ bytes "\n"

-- `refused 7 at 31`
abbrev pub refused_line : ℕ → ℕ → List ℕ
refused_line number offset = (bytes "refused " ++ decimal number) ++ (bytes " at " ++ decimal offset) ++ bytes "\n"
