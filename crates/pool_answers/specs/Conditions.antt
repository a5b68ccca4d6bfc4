-- What each entry turns down, as the request says it (No. 5): its conditions in the order in which they are tested, those of a verdict first.
--     WrongList, FalseFinds     the conditions on the list of reports
--     pool_conditions            the pool's
--     Answered                  what a range check answered of a size and bounds: clean, or a rank of that size between them
--     CouldStand                a report of it that passes the tests of 25, of some table and at some order
--     filing_conditions          the writing's
use Rattle.std.specs.Prelude.{ℕ, ◌%◌, ◌≤◌, ◌<◌, ◌≡◌, ◌⊎◌, false, List, [], ◌∷◌, ◌++◌, length, Result, Ok, Err}
use Rattle.limits.specs.Limits.{max_wires, max_size}
use Rattle.basics.specs.Conditions.{Condition, ◌when◌, Some}
use Rattle.records.specs.Layout.{wire_count}
use Rattle.counts.specs.Counts.{binom}
use Rattle.revolving.specs.Order.{set_at}
use Rattle.breaking.specs.Breaking.{is_breaking}
use Rattle.table.specs.Conditions.{table_conditions}
use Rattle.filed_reports.specs.Bytes.{report_bytes, all_ones, report_at, report_count}
use Rattle.filed_reports.specs.Filed.{Filed, Misfiled}
use Rattle.verdict_answers.specs.declared.Checked.{Checked}
use Rattle.verdict_answers.specs.declared.Refusal as verdict-refusal
use Rattle.verdict_answers.specs.Answers.{notion_of}
use Rattle.verdict_answers.specs.Conditions.{WrongNotion}
use Rattle.pool_answers.specs.Answers.{report_of}

-- "25 when the list's length is no multiple of 32 or a report has another notion, a size not 1 to the order, nonzero filling, bounds that 18 bars or a
-- found rank outside them"
abbrev pub WrongList : List ℕ → ℕ → ℕ → List ℕ → Type 0
WrongList table notion order reports =
    (length reports % report_bytes ≡ 0 → ⊥)
    ⊎ Some (report_count reports) (λ i. Misfiled (binom (wire_count table)) notion order (report_at reports i))

-- "26, after all 25s, when a found rank is not a breaking set"
abbrev pub FalseFinds : List ℕ → ℕ → ℕ → ℕ → List ℕ → Type 0
FalseFinds table shares masks notion reports =
    Some (report_count reports) (λ i. ((report_at reports i).found ≡ all_ones → ⊥)
    × (is_breaking (notion_of notion) table shares masks (set_at (wire_count table) (report_at reports i).size (report_at reports i).found) ≡ false))

-- "The table, notion and order are first tested as for a verdict"
abbrev pub pool_conditions : List ℕ → ℕ → ℕ → ℕ → ℕ → List ℕ → List Condition
pool_conditions table shares masks notion order reports =
    table_conditions table shares masks
    ++ 14 when WrongNotion notion
    ∷ 15 when ((order < 1) ⊎ (shares ≤ order))
    ∷ 25 when WrongList table notion order reports
    ∷ 26 when FalseFinds table shares masks notion reports
    ∷ []

-- with the found rank of the report, all ones where the ranks are clean
abbrev pub Answered : ℕ → ℕ → ℕ → Result Checked verdict-refusal.Refusal → ℕ → Type 0
Answered size from to (Ok Checked.Clean) found = found ≡ all_ones
Answered size from to (Ok (Checked.Found k rank)) found = (k ≡ size) × (from ≤ rank) × (rank < to) × (found ≡ rank)
Answered size from to (Err why) found = ⊥

pub record CouldStand (notion size from to : ℕ) (answer : Result Checked verdict-refusal.Refusal) : Type 0 where
  pub found : ℕ
  pub answered : Answered size from to answer found
  pub wires : ℕ
  pub few : wires ≤ max_wires
  pub order : ℕ
  pub small : order ≤ max_size
  pub known : WrongNotion notion → ⊥
  pub filed : Filed (binom wires) notion order (report_of notion size from to found)

-- "a 25 where the buffer is not 32 bytes or the numbers could stand in no report"
abbrev pub filing_conditions : ℕ → ℕ → ℕ → ℕ → Result Checked verdict-refusal.Refusal → List ℕ → List Condition
filing_conditions notion size from to answer buffer =
    25 when ((length buffer ≡ report_bytes → ⊥) ⊎ (CouldStand notion size from to answer → ⊥))
    ∷ []
