-- What `job` tells, for all that it accepts.
--     job-told      what it tells within the limits
--     told-once     every set is visited by exactly one job that `job` tells, at exactly one rank for which `set_from_rank` writes it
use Prim.Native.Nat.{ℕ, suc, ◌≤◌, ◌<◌}
use native.Mathlib.Omega.{arith}
use mathlib.Core.Path.{◌≡◌, subst}
use mathlib.Core.Logic.{inr}
use mathlib.Core.Bool.{true}
use mathlib.Core.List.{List, [], ◌∷◌}
use borrow.Author.Tests.{le-ltb, lt-leb, ne_eqb}
use Rattle.limits.specs.Limits.{max_wires, max_size}
use Rattle.basics.specs.Told.{values}
use Rattle.basics.proofs.Conditions.{own_told}
use Rattle.counts.specs.Counts.{binom}
use Rattle.revolving.specs.Order.{is_set}
use Rattle.sets.specs.Visits.{SetTells}
use Rattle.sets.proofs.Entries.{at_told, told_at}
use Rattle.division.specs.Division.{start, HasRank, ExactlyOne}
use Rattle.division.specs.Answers.{max_jobs, job_ranks}
use Rattle.division.specs.Visits.{JobTells}
use Rattle.division.proofs.Conditions.{job_chain, job_settled}
use Rattle.division.proofs.Division.{visited-once, rank-counted}

-- a job's ranks, as told
module _ (n k jobs : ℕ) (a : n ≤ max_wires) (b : k ≤ max_size) (some : 0 < jobs) (c : jobs ≤ max_jobs) where
  pub job-told : (i : ℕ) → i < jobs → job_ranks n k i jobs ≡ values (start (binom n k) jobs i ∷ start (binom n k) jobs (suc i) ∷ [])
  job-told i d = simp (le-ltb max_wires n a, le-ltb max_size k b, ne_eqb jobs 0 (omega arith), le-ltb max_jobs jobs c, lt-leb jobs i d)

  has-told : (i r : ℕ) → HasRank (binom n k) jobs i r → JobTells n k jobs i r
  has-told i r h = record { from = start (binom n k) jobs i; to = start (binom n k) jobs (suc i); told = job-told i h.inside; low = h.from; high = h.to }

  told-has : (i r : ℕ) → JobTells n k jobs i r → HasRank (binom n k) jobs i r
  told-has i r t =
      let none = (job_settled n k i jobs).answered.0 (t.from ∷ t.to ∷ [], t.told) in
      let late : jobs ≤ i → ⊥ = λ h. none.1.1.0 (inr (inr h)) in
      let same = own_told (job_chain n k i jobs) (t.from ∷ t.to ∷ []) t.told in
      let e : t.from ≡ start (binom n k) jobs i = cc in
      let f : t.to ≡ start (binom n k) jobs (suc i) = cc in
      record { inside = omega arith; from = omega (arith, t.low); to = omega (arith, t.high) }

pub told-once : (n k jobs : ℕ) → n ≤ max_wires → k ≤ max_size → 0 < jobs → jobs ≤ max_jobs → (s : List ℕ) → is_set n k s ≡ true → ExactlyOne (JobTells n k jobs) (λ r. SetTells n k r s)
told-once n k jobs a b some c s e =
    let once = visited-once n k jobs some s e in
    let counted = rank-counted (binom n k) jobs once.job once.rank some once.visits in
    record {
      job = once.job;
      rank = once.rank;
      visits = has-told n k jobs a b some c once.job once.rank once.visits;
      here = subst (SetTells n k once.rank) once.here (at_told n k a b once.rank counted);
      only = λ i r p q. once.only i r (told-has n k jobs a b some c i r p) (told_at n k a b r s q);
    }
