-- What a caller in C gets from a pool and from the writing of a report, and what the numbers mean.
--     checked_as      what a range check told, by `clean` and `rank`: clean is 1, anything else a find
--     filed_call      what the writing is to tell: 25 where `clean` is over 1, else what the entry tells
--     PoolTells      the answer is 1, 2 or 3, and says what holds, broken and uncovered say
--     FilingSays     the report stands in the buffer exactly where it could stand in some list, and the buffer has its length
use Rattle.std.specs.Prelude.{ℕ, ◌≤◌, ◌≡◌, ◌↔◌, ◌⊎◌, cond, List, ltb, eqb, length, Ok}
use Rattle.basics.specs.Told.{Lent, turned_down}
use Rattle.filed_reports.specs.Bytes.{report_bytes, all_ones, bytes_of_report}
use Rattle.verdict_answers.specs.declared.Checked.{Checked}
use Rattle.pool_answers.specs.declared.Outcome.{Outcome}
use Rattle.pool_answers.specs.Answers.{report_of, filed_report}
use Rattle.pool_answers.specs.Conditions.{CouldStand}
use Rattle.pool_answers.specs.Says.{PoolSays}
use Rattle.pool_answers.specs.Agrees.{PoolAgrees}

abbrev pub checked_as : ℕ → ℕ → ℕ → Checked
checked_as size clean rank = cond (eqb clean 1) Checked.Clean (Checked.Found size rank)

abbrev pub filed_call : ℕ → ℕ → ℕ → ℕ → ℕ → ℕ → List ℕ → Lent
filed_call notion size from to clean rank buffer =
    cond (ltb 1 clean) (turned_down 25 buffer) (filed_report notion size from to (Ok (checked_as size clean rank)) buffer)

pub record PoolTells (status answer size rank : ℕ) (table : List ℕ) (shares masks notion order : ℕ) (reports : List ℕ) : Type 0 where
  pub one : status ≡ 0 → (answer ≡ 1) ⊎ ((answer ≡ 2) ⊎ (answer ≡ 3))
  pub holds : status ≡ 0 → answer ≡ 1
      → PoolSays (Ok Outcome.Holds) table shares masks notion order reports × PoolAgrees (Ok Outcome.Holds) table shares masks notion order reports
  pub broken : status ≡ 0 → answer ≡ 2
      → PoolSays (Ok (Outcome.Broken size rank)) table shares masks notion order reports
      × PoolAgrees (Ok (Outcome.Broken size rank)) table shares masks notion order reports
  pub uncovered : status ≡ 0 → answer ≡ 3 → PoolSays (Ok (Outcome.Uncovered size rank)) table shares masks notion order reports

pub record FilingSays (status notion size from to clean rank : ℕ) (buffer held : List ℕ) : Type 0 where
  pub files-exactly : (status ≡ 0) ↔ ((length buffer ≡ report_bytes) × ((clean ≤ 1) × CouldStand notion size from to (Ok (checked_as size clean rank))))
  pub written : status ≡ 0 → held ≡ bytes_of_report (report_of notion size from to (cond (eqb clean 1) all_ones rank))
