-- The reports of a search that is divided over jobs (scope, "Numbering and dividing"), each filed from what the job's range check answered.
--     bytes_at       the bytes of a report of a list
--     Checked       these bytes were filed from what a range check answered, with whatever buffers it and the writing were lent
--     Campaign      a list of reports each of which was, of sizes from 1 to the order and any bounds
--     JobReport     the same of a job: the bounds are those that `job` tells
--     Gathered      a list of the reports of all jobs of all sizes from 1 to the order but those left out, in any order, each once or more
--     All, But      none is left out; one is
--     PoolIsVerdict     the pool tells what the verdict does: holds, or the set that it shows, by its size and rank
use Rattle.std.specs.Prelude.{ℕ, ◌*◌, ◌%◌, ◌≤◌, ◌<◌, ◌≡◌, ◌⊎◌, List, [], ◌∷◌, length, take, drop, Result}
use Rattle.basics.specs.Told.{values}
use Rattle.basics.specs.Conditions.{Some}
use Rattle.records.specs.Layout.{wire_count}
use Rattle.revolving.specs.Order.{rank_of}
use Rattle.division.specs.Answers.{job_ranks}
use Rattle.filed_reports.specs.Bytes.{report_bytes, report_count}
use Rattle.verdict_answers.specs.declared.Checked as range-answer
use Rattle.verdict_answers.specs.declared.Refusal as verdict-refusal
use Rattle.verdict_answers.specs.Answers.{range_told, range_check, verdict_of}
use Rattle.verdict_answers.specs.Jobs.{nothing, broken}
use Rattle.pool_answers.specs.Answers.{holds_told, broken_told, pool_of, filed_report}

abbrev pub bytes_at : List ℕ → ℕ → List ℕ
bytes_at reports i = take report_bytes (drop (report_bytes * i) reports)

pub record Checked (table : List ℕ) (shares masks notion size from to : ℕ) (bytes : List ℕ) : Type 0 where
  pub buffer : List ℕ
  pub answer : Result range-answer.Checked verdict-refusal.Refusal
  pub held : List ℕ
  pub answers : range_told answer held ≡ range_check table shares masks notion size from to buffer
  pub lent : List ℕ
  pub files : filed_report notion size from to answer lent ≡ record { told = values []; held = bytes }

pub record Campaign (table : List ℕ) (shares masks notion order : ℕ) (reports : List ℕ) : Type 0 where
  pub whole : length reports % report_bytes ≡ 0
  pub each : (i : ℕ) → i < report_count reports → (size from to : ℕ) × (1 ≤ size) × (size ≤ order)
      × Checked table shares masks notion size from to (bytes_at reports i)

pub record JobReport (table : List ℕ) (shares masks notion size jobs job : ℕ) (bytes : List ℕ) : Type 0 where
  pub from : ℕ
  pub to : ℕ
  pub told : job_ranks (wire_count table) size job jobs ≡ values (from ∷ to ∷ [])
  pub checked : Checked table shares masks notion size from to bytes

pub record Gathered (Left : ℕ → ℕ → Type 0) (table : List ℕ) (shares masks notion order : ℕ) (jobs : ℕ → ℕ) (reports : List ℕ) : Type 0 where
  pub whole : length reports % report_bytes ≡ 0
  pub each : (i : ℕ) → i < report_count reports → (size job : ℕ) × (1 ≤ size) × (size ≤ order) × (job < jobs size) × (Left size job → ⊥)
      × JobReport table shares masks notion size (jobs size) job (bytes_at reports i)
  pub all : (size job : ℕ) → 1 ≤ size → size ≤ order → job < jobs size → (Left size job → ⊥)
      → Some (report_count reports) (λ i. JobReport table shares masks notion size (jobs size) job (bytes_at reports i))

abbrev pub All : ℕ → ℕ → Type 0
All size job = ⊥

abbrev pub But : ℕ → ℕ → ℕ → ℕ → Type 0
But k i size job = (size ≡ k) × (job ≡ i)

abbrev pub PoolIsVerdict : List ℕ → ℕ → ℕ → ℕ → ℕ → List ℕ → List ℕ → Type 0
PoolIsVerdict table shares masks notion order buffer reports =
    ((pool_of table shares masks notion order reports ≡ holds_told) × (verdict_of table shares masks notion order buffer ≡ nothing buffer))
    ⊎ ((set : List ℕ) × (pool_of table shares masks notion order reports ≡ broken_told (length set) (rank_of (wire_count table) set))
    × (verdict_of table shares masks notion order buffer ≡ broken set buffer))
