-- What the answers of a pool say of the reports, in the words of the request (No. 5).
--     Reported, IsCovered          a report has found this rank of this size; one covers it
--     NoneReported, AllCovered     none is found; every rank of every size from 1 to the order is covered
--     FirstReported                found, and no report has found a smaller size, nor a lower rank of it
--     FirstUncovered               not covered, and every smaller size and every rank before it is
--     Pooled                       a pool that no test turns down
--     PoolSays                     what each answer says
--     FilingMeans                  a report is filed exactly where it could stand in some list and the buffer has its length; it is then read from the buffer
--                                  again, and where it is refused the buffer is as it was
use Rattle.std.specs.Prelude.{ℕ, ◌%◌, ◌≤◌, ◌<◌, ◌≡◌, ◌↔◌, ◌⊎◌, true, List, [], length, Result, Ok, Err}
use Rattle.basics.specs.Told.{values}
use Rattle.basics.specs.Conditions.{Some}
use Rattle.records.specs.Layout.{wire_count}
use Rattle.counts.specs.Counts.{binom}
use Rattle.revolving.specs.Order.{set_at}
use Rattle.breaking.specs.Breaking.{is_breaking}
use Rattle.table.specs.Answers.{table_check}
use Rattle.filed_reports.specs.Bytes.{report_bytes, all_ones, report_at, report_count}
use Rattle.filed_reports.specs.Filed.{Filed, Covers, Finds}
use Rattle.verdict_answers.specs.Answers.{notion_of}
use Rattle.verdict_answers.specs.Conditions.{WrongNotion}
use Rattle.verdict_answers.specs.declared.Checked.{Checked}
use Rattle.verdict_answers.specs.declared.Refusal as verdict-refusal
use Rattle.pool_answers.specs.declared.Refusal.{Refusal}
use Rattle.pool_answers.specs.declared.Outcome.{Outcome}
use Rattle.pool_answers.specs.Answers.{report_of}
use Rattle.pool_answers.specs.Conditions.{Answered, CouldStand}

abbrev pub Reported : List ℕ → ℕ → ℕ → Type 0
Reported reports size rank = Some (report_count reports) (λ i. Finds (report_at reports i) size rank)

abbrev pub IsCovered : List ℕ → ℕ → ℕ → Type 0
IsCovered reports size rank = Some (report_count reports) (λ i. Covers (report_at reports i) size rank)

abbrev pub NoneReported : List ℕ → Type 0
NoneReported reports = (size rank : ℕ) → Reported reports size rank → ⊥

abbrev pub AllCovered : ℕ → ℕ → List ℕ → Type 0
AllCovered wires order reports = (size rank : ℕ) → 1 ≤ size → size ≤ order → rank < binom wires size → IsCovered reports size rank

pub record FirstReported (reports : List ℕ) (size rank : ℕ) : Type 0 where
  pub here : Reported reports size rank
  pub first : (k r : ℕ) → Reported reports k r → (size < k) ⊎ ((size ≡ k) × (rank ≤ r))

pub record FirstUncovered (wires order : ℕ) (reports : List ℕ) (size rank : ℕ) : Type 0 where
  pub low : 1 ≤ size
  pub high : size ≤ order
  pub counted : rank < binom wires size
  pub here : IsCovered reports size rank → ⊥
  pub smaller : (k r : ℕ) → 1 ≤ k → k < size → r < binom wires k → IsCovered reports k r
  pub before : (r : ℕ) → r < rank → IsCovered reports size r

pub record Pooled (table : List ℕ) (shares masks notion order : ℕ) (reports : List ℕ) : Type 0 where
  pub sound : values [] ≡ table_check table shares masks
  pub known : WrongNotion notion → ⊥
  pub low : 1 ≤ order
  pub high : order < shares
  pub whole : length reports % report_bytes ≡ 0
  pub filed : (i : ℕ) → i < report_count reports → Filed (binom (wire_count table)) notion order (report_at reports i)
  pub breaking : (i : ℕ) → i < report_count reports → ((report_at reports i).found ≡ all_ones → ⊥)
      → is_breaking (notion_of notion) table shares masks (set_at (wire_count table) (report_at reports i).size (report_at reports i).found) ≡ true

pub record PoolSays (answer : Result Outcome Refusal) (table : List ℕ) (shares masks notion order : ℕ) (reports : List ℕ) : Type 0 where
  pub holds : answer ≡ Ok Outcome.Holds → NoneReported reports × AllCovered (wire_count table) order reports
  pub broken : (size rank : ℕ) → answer ≡ Ok (Outcome.Broken size rank) → FirstReported reports size rank
  pub uncovered : (size rank : ℕ) → answer ≡ Ok (Outcome.Uncovered size rank)
      → NoneReported reports × FirstUncovered (wire_count table) order reports size rank

-- what is filed is read again, with the found rank of the range check's answer
pub record FilingMeans (told : Result (Unit {0}) Refusal) (notion size from to : ℕ) (answer : Result Checked verdict-refusal.Refusal) (buffer held : List ℕ) : Type 0 where
  pub files-exactly : (told ≡ Ok tt) ↔ ((length buffer ≡ report_bytes) × CouldStand notion size from to answer)
  pub written : told ≡ Ok tt
      → (length held ≡ report_bytes) × ((found : ℕ) × Answered size from to answer found × (report_at held 0 ≡ report_of notion size from to found))
  pub refused : (why : Refusal) → told ≡ Err why → held ≡ buffer
