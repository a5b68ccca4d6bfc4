-- What the answers of a pool say of the table: "If every clean report is true, a pooled "holds" or "broken" agrees with the verdict's, though the set may
-- be a later one" (request No. 5).
--     AllTrue        of the ranks of every clean report a range check, with a buffer long enough, is clean
--     PoolAgrees     holds: with any buffer long enough the verdict holds, and every set to watch has a choice of shares; broken: the set at the size and
--                    rank is one to watch, breaks the notion and has no choice of shares, and with any buffer long enough the verdict shows a set too,
--                    which comes no later
use Rattle.std.specs.Prelude.{ℕ, ◌≤◌, ◌<◌, ◌≡◌, true, List, length, Result, Ok}
use Rattle.records.specs.Layout.{wire_count}
use Rattle.revolving.specs.Order.{set_at}
use Rattle.breaking.specs.Breaking.{is_breaking}
use Rattle.filed_reports.specs.Bytes.{all_ones, report_at, report_count}
use Rattle.verdict_answers.specs.Answers.{notion_of, verdict_of, range_check}
use Rattle.verdict_answers.specs.First.{NotAfter}
use Rattle.verdict_answers.specs.Guarantee.{Watched, HasChoice}
use Rattle.verdict_answers.specs.Jobs.{nothing, broken}
use Rattle.pool_answers.specs.declared.Refusal.{Refusal}
use Rattle.pool_answers.specs.declared.Outcome.{Outcome}

pub record AllTrue (table : List ℕ) (shares masks notion : ℕ) (reports : List ℕ) : Type 0 where
  pub clean : (i : ℕ) → i < report_count reports → (report_at reports i).found ≡ all_ones → (buffer : List ℕ) × ((report_at reports i).size ≤ length buffer)
      × (range_check table shares masks notion (report_at reports i).size (report_at reports i).from (report_at reports i).to buffer ≡ nothing buffer)

pub record PoolAgrees (answer : Result Outcome Refusal) (table : List ℕ) (shares masks notion order : ℕ) (reports : List ℕ) : Type 0 where
  pub holds : answer ≡ Ok Outcome.Holds → AllTrue table shares masks notion reports
      → (buffer : List ℕ) → order ≤ length buffer → verdict_of table shares masks notion order buffer ≡ nothing buffer
  pub guards : answer ≡ Ok Outcome.Holds → AllTrue table shares masks notion reports
      → (set : List ℕ) → Watched table order set → HasChoice table shares masks notion set
  pub breaks : (size rank : ℕ) → answer ≡ Ok (Outcome.Broken size rank)
      → Watched table order (set_at (wire_count table) size rank)
      × (is_breaking (notion_of notion) table shares masks (set_at (wire_count table) size rank) ≡ true)
      × (HasChoice table shares masks notion (set_at (wire_count table) size rank) → ⊥)
  pub shows : (size rank : ℕ) → answer ≡ Ok (Outcome.Broken size rank)
      → (buffer : List ℕ) → order ≤ length buffer → (set : List ℕ) × (verdict_of table shares masks notion order buffer ≡ broken set buffer)
      × NotAfter (wire_count table) set (set_at (wire_count table) size rank)
