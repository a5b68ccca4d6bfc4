-- The division of a size's sets over any number of jobs.
--     start-zero, start-all, start-rises     the first job starts at 0, the last ends at the count, and none goes back
--     start-parts, start-within, whole-within, rest-within     the quotient in parts that fit a word, and their bounds
--     shares_add_up      the jobs' shares add up to the count
--     jobs_joined        the jobs' sets, one job after the other, are the published list
--     job_of_rank, one-job, rank-counted     every rank below the count, and no other, is in exactly one job
--     visited-once       every set is visited by exactly one job, at exactly one rank of it
use Prim.Native.Nat.{ℕ, zero, suc, ◌+◌, ◌-◌, ◌*◌, ◌/◌, ◌%◌, ◌≤◌, ◌<◌}
use native.Mathlib.Nat.{mod-lt, mul-le-mul, mul-add-div_right, mul_assoc, mul-add, div-add-mod', zero-mul, zero-div, mul-div_cancel_left, suc-mul, le-div_iff_mul-le, div-mul-le_self, le_trans, mul-le-mul_right}
use native.Mathlib.Decide.{dec_lt}
use native.Mathlib.Omega.{arith}
use mathlib.Core.Path.{◌≡◌, sym, ◌∙◌, ap, subst}
use mathlib.Core.Bool.{true}
use mathlib.Core.List.{List, ◌++◌}
use lib.ListN.{take}
use lib.Seq.{take-add, take_all}
use Rattle.basics.proofs.Numbers.{rises}
use Rattle.counts.specs.Counts.{binom}
use Rattle.revolving.specs.Order.{revolving, set_at, rank_of, is_set}
use Rattle.division.specs.Division.{start, share, total, visited, joined, HasRank, ExactlyOne}
use Rattle.revolving.proofs.Revolving.{revolving-length, set_of_rank, rank_unique}

pub start-zero : (all jobs : ℕ) → start all jobs 0 ≡ 0
start-zero all jobs = simp (zero-mul, zero-div)

pub start-all : (all jobs : ℕ) → 0 < jobs → start all jobs jobs ≡ all
start-all all jobs h = mul-div_cancel_left all h

pub div-rises : (a b j : ℕ) → 0 < j → a ≤ b → a / j ≤ b / j
div-rises a b j h p = (le-div_iff_mul-le h).1 (le_trans (div-mul-le_self a j) p)

pub start-rises : (all jobs i : ℕ) → 0 < jobs → start all jobs i ≤ start all jobs (suc i)
start-rises all jobs i h = div-rises (i * all) (suc i * all) jobs h (omega (arith, suc-mul i all))

module _ (all jobs i : ℕ) (h : 0 < jobs) where
  -- i × all is i times the whole quotient times jobs, and i times the rest
  pub start-parts : i * (all / jobs) + i * (all % jobs) / jobs ≡ start all jobs i
  start-parts =
      sym (mul-add-div_right h (i * (all / jobs)) (i * (all % jobs)))
      ∙ ap (λ (m : ℕ). m / jobs) (ap (λ (m : ℕ). m + i * (all % jobs)) (mul_assoc i (all / jobs) jobs)
      ∙ sym (mul-add i (all / jobs * jobs) (all % jobs))
      ∙ ap (λ (m : ℕ). i * m) (div-add-mod' all jobs))

  pub start-within : i ≤ jobs → start all jobs i ≤ all
  start-within p =
      let q : i * all / jobs ≤ jobs * all / jobs = div-rises (i * all) (jobs * all) jobs h (mul-le-mul_right all p) in
      omega (arith, q, start-all all jobs h)

  pub whole-within : i ≤ jobs → i * (all / jobs) ≤ all
  whole-within p = omega (arith, start-parts, start-within p)

  pub rest-within : jobs ≤ 65536 → i ≤ jobs → i * (all % jobs) ≤ 65536 * 65536
  rest-within p q =
      let r : all % jobs ≤ 65536 = omega (arith, mod-lt all h) in
      mul-le-mul (le_trans q p) r

module _ (all jobs : ℕ) (h : 0 < jobs) where
  shares_to : (j : ℕ) → total j (share all jobs) ≡ start all jobs j
  shares_to zero = sym (start-zero all jobs)
  shares_to (suc j) =
      let ih = shares_to j in
      let up = start-rises all jobs j h in
      omega arith

  pub shares_add_up : total jobs (share all jobs) ≡ all
  shares_add_up = shares_to jobs ∙ start-all all jobs h

module _ (n k jobs : ℕ) (h : 0 < jobs) where
  joined_to : (j : ℕ) → joined j (visited n k jobs) ≡ take (start (binom n k) jobs j) (revolving n k)
  joined_to zero = ap (λ (m : ℕ). take m (revolving n k)) (sym (start-zero (binom n k) jobs))
  joined_to (suc j) =
      let a = start (binom n k) jobs j in
      let b = start (binom n k) jobs (suc j) in
      let up = start-rises (binom n k) jobs j h in
      let e : a + (b - a) ≡ b = omega arith in
      ap (λ (l : List (List ℕ)). l ++ visited n k jobs j) (joined_to j)
      ∙ sym (take-add a (b - a) (revolving n k))
      ∙ ap (λ (m : ℕ). take m (revolving n k)) e

  pub jobs_joined : joined jobs (visited n k jobs) ≡ revolving n k
  jobs_joined =
      joined_to jobs
      ∙ ap (λ (m : ℕ). take m (revolving n k)) (start-all (binom n k) jobs h)
      ∙ take_all (binom n k) (revolving n k) (omega (arith, revolving-length n k))

-- a rising sequence that begins at or below r and ends above it passes r at one step
passes : (f : ℕ → ℕ) (j r : ℕ) → f 0 ≤ r → r < f j → (i : ℕ) × (i < j) × (f i ≤ r) × (r < f (suc i))
passes f zero r p q = let z : ⊥ = omega arith in absurd z
passes f (suc j) r p q = go (dec_lt r (f j)) (passes f j r p)
  where
    go : Dec (r < f j) → (r < f j → (i : ℕ) × (i < j) × (f i ≤ r) × (r < f (suc i))) → (i : ℕ) × (i < suc j) × (f i ≤ r) × (r < f (suc i))
    go (yes b) ih = let s = ih b in (s.0, omega (arith, s.1), s.2, s.3)
    go (no b) ih = (j, omega arith, omega arith, q)

-- and at one step only
passes-once : (f : ℕ → ℕ) → ((i : ℕ) → f i ≤ f (suc i)) → (i j r : ℕ) → f i ≤ r → r < f (suc i) → f j ≤ r → r < f (suc j) → i ≡ j
passes-once f up i j r a b c d = go (dec_lt i j) (dec_lt j i)
  where
    go : Dec (i < j) → Dec (j < i) → i ≡ j
    go (yes p) w = let z : ⊥ = omega (arith, rises f up (suc i) j p) in absurd z
    go (no p) (yes q) = let z : ⊥ = omega (arith, rises f up (suc j) i q) in absurd z
    go (no p) (no q) = omega arith

pub job_of_rank : (all jobs r : ℕ) → 0 < jobs → r < all → (i : ℕ) × HasRank all jobs i r
job_of_rank all jobs r h b =
    let s = passes (start all jobs) jobs r (omega (arith, start-zero all jobs)) (omega (arith, start-all all jobs h)) in
    (s.0, record { inside = s.1; from = s.2; to = s.3 })

pub one-job : (all jobs i j r : ℕ) → 0 < jobs → HasRank all jobs i r → HasRank all jobs j r → i ≡ j
one-job all jobs i j r h p q = passes-once (start all jobs) (λ m. start-rises all jobs m h) i j r p.from p.to q.from q.to

pub rank-counted : (all jobs i r : ℕ) → 0 < jobs → HasRank all jobs i r → r < all
rank-counted all jobs i r h p = omega (arith, p.to, start-within all jobs (suc i) h p.inside)

pub visited-once : (n k jobs : ℕ) → 0 < jobs → (s : List ℕ) → is_set n k s ≡ true → ExactlyOne (HasRank (binom n k) jobs) (λ r. set_at n k r ≡ s)
visited-once n k jobs h s e =
    let there = set_of_rank n k s e in
    let found = job_of_rank (binom n k) jobs (rank_of n s) h there.0 in
    record {
      job = found.0;
      rank = rank_of n s;
      visits = found.1;
      here = there.1;
      only = λ i r p q.
          let same : rank_of n s ≡ r = rank_unique n k r s (rank-counted (binom n k) jobs i r h p) q in
          (one-job (binom n k) jobs i found.0 (rank_of n s) h (subst (HasRank (binom n k) jobs i) (sym same) p) found.1, sym same);
    }
