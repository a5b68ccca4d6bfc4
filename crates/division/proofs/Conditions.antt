-- Which call gets which number: `job` tells a refusal exactly when its condition is the first that holds, values exactly when none does.
--     job_chain       its tests, and its own answer
--     job_settled     it, for all arguments
use Prim.Native.Nat.{ℕ, suc}
use mathlib.Core.List.{List, [], ◌∷◌}
use Rattle.limits.specs.Limits.{max_wires, max_size}
use Rattle.basics.specs.Told.{values, refusal}
use Rattle.basics.specs.Conditions.{Settles}
use Rattle.basics.proofs.Conditions.{Chain, own, test, settles-told, less, least, equal, one_of_three}
use Rattle.counts.specs.Counts.{binom}
use Rattle.division.specs.Division.{start}
use Rattle.division.specs.Answers.{job_ranks}
use Rattle.division.specs.Conditions.{job_conditions}

module _ (wires size job jobs : ℕ) where
  abbrev pub bounds : List ℕ
  bounds = start (binom wires size) jobs job ∷ start (binom wires size) jobs (suc job) ∷ []

  pub job_chain : Chain refusal (values bounds) (job_conditions wires size job jobs) (job_ranks wires size job jobs)
  job_chain =
      test 12 (less max_wires wires)
      (test 17 (less max_size size)
      (test 19 (one_of_three (equal jobs 0) (less 65536 jobs) (least jobs job))
      (own refusal (values bounds))))

  pub job_settled : Settles (job_conditions wires size job jobs) (job_ranks wires size job jobs)
  job_settled = settles-told job_chain
