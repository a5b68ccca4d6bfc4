-- What machines find that divide a search (scope, "Numbering and dividing"): each does the range check of one job, with the bounds that `job` tells.
--     nothing                  the answer of a range check that is clean, and of a verdict that holds
--     found, broken            the answer that gives a set with its rank, and the one that gives it without
--     Ordered, Asked           a verdict that no test turns down; a range check that no test turns down, but for its bounds
--     Divided                  a number of jobs that is not turned down
--     JobAnswers               what the range check of a job answers
--     AllClean                 every job is clean
--     CleanBelow               every job of every size from 1 up to, without, one is clean, with a number of jobs of its own for each size
--     FirstFound               a job finds a set, and every job before it is clean
use Rattle.std.specs.Prelude.{ℕ, ◌≤◌, ◌<◌, ◌≡◌, List, [], ◌∷◌, length}
use Rattle.limits.specs.Limits.{max_size}
use Rattle.basics.specs.Told.{Lent, values}
use Rattle.records.specs.Layout.{wire_count}
use Rattle.table.specs.Answers.{table_check}
use Rattle.division.specs.Answers.{job_ranks}
use Rattle.verdict_answers.specs.Answers.{written, range_check}
use Rattle.verdict_answers.specs.Conditions.{WrongNotion}

abbrev pub nothing : List ℕ → Lent
nothing buffer = record { told = values []; held = buffer }

abbrev pub found : List ℕ → ℕ → List ℕ → Lent
found set rank buffer = record { told = values (length set ∷ rank ∷ []); held = written set buffer }

abbrev pub broken : List ℕ → List ℕ → Lent
broken set buffer = record { told = values (length set ∷ []); held = written set buffer }

pub record Ordered (table : List ℕ) (shares masks notion order : ℕ) (buffer : List ℕ) : Type 0 where
  pub sound : values [] ≡ table_check table shares masks
  pub known : WrongNotion notion → ⊥
  pub low : 1 ≤ order
  pub high : order < shares
  pub room : order ≤ length buffer

pub record Asked (table : List ℕ) (shares masks notion size : ℕ) (buffer : List ℕ) : Type 0 where
  pub sound : values [] ≡ table_check table shares masks
  pub known : WrongNotion notion → ⊥
  pub small : size ≤ max_size
  pub room : size ≤ length buffer

pub record Divided (jobs : ℕ) : Type 0 where
  pub some : 0 < jobs
  pub few : jobs ≤ 65536

pub record JobAnswers (table : List ℕ) (shares masks notion size jobs job : ℕ) (buffer : List ℕ) (answer : Lent) : Type 0 where
  pub from : ℕ
  pub to : ℕ
  pub told : job_ranks (wire_count table) size job jobs ≡ values (from ∷ to ∷ [])
  pub answers : range_check table shares masks notion size from to buffer ≡ answer

abbrev pub AllClean : List ℕ → ℕ → ℕ → ℕ → ℕ → ℕ → List ℕ → Type 0
AllClean table shares masks notion size jobs buffer =
    (job : ℕ) → job < jobs → JobAnswers table shares masks notion size jobs job buffer (nothing buffer)

abbrev pub CleanBelow : List ℕ → ℕ → ℕ → ℕ → (ℕ → ℕ) → List ℕ → ℕ → Type 0
CleanBelow table shares masks notion jobs buffer size = (k : ℕ) → 1 ≤ k → k < size → AllClean table shares masks notion k (jobs k) buffer

pub record FirstFound (table : List ℕ) (shares masks notion size jobs : ℕ) (buffer set : List ℕ) (rank : ℕ) : Type 0 where
  pub job : ℕ
  pub one : job < jobs
  pub before : (earlier : ℕ) → earlier < job → JobAnswers table shares masks notion size jobs earlier buffer (nothing buffer)
  pub finds : JobAnswers table shares masks notion size jobs job buffer (found set rank buffer)
