-- What the line of a notion says of a watcher: no breaking set and no search in it.
--     Breaks             the set that is shown, and the operands named after it
--     SaysNotion         holds exactly when every set to watch has a choice; else a break shows the first in the published order that has none
use Rattle.std.specs.Prelude.{ℕ, ◌<◌, ◌≡◌, ◌↔◌, List, ◌++◌, length}
use Rattle.basics.specs.Quoted.{bytes}
use Rattle.records.specs.Layout.{wire_count}
use Rattle.verdict_answers.specs.Guarantee.{Watched, HasChoice}
use Rattle.verdict_answers.specs.First.{NotAfter}
use Rattle.pages.specs.Page.{wire_numbers}
use Rattle.operand_words.specs.Operands.{NamesOperands}
use Rattle.verdict_lines.specs.Lines.{notion_name}

-- a line that does not say holds shows a set within the order that has no choice, and of all such sets the first in the published order: none has
-- fewer wires, or as many and a lower rank
pub record Breaks (table : List ℕ) (shares masks notion order : ℕ) (line : List ℕ) : Type 0 where
  pub set : List ℕ
  pub word : List ℕ
  pub shown : line ≡ notion_name notion ++ (bytes " broken" ++ wire_numbers set ++ word) ++ bytes "\n"
  pub operands : NamesOperands table shares masks notion set word
  pub some : 0 < length set
  pub watched : Watched table order set
  pub no_choice : HasChoice table shares masks notion set → ⊥
  pub first : (u : List ℕ) → Watched table order u → (HasChoice table shares masks notion u → ⊥) → NotAfter (wire_count table) set u

pub record SaysNotion (table : List ℕ) (shares masks notion order : ℕ) (line : List ℕ) : Type 0 where
  pub holds : (line ≡ notion_name notion ++ bytes " holds" ++ bytes "\n")
      ↔ ((set : List ℕ) → Watched table order set → HasChoice table shares masks notion set)
  pub broken : (line ≡ notion_name notion ++ bytes " holds" ++ bytes "\n" → ⊥) → Breaks table shares masks notion order line
