-- The scope's examples on dividing, and every refusal, from the definitions that the contract of `job` cites.
use Prim.Native.Nat.{ℕ, ◌*◌, ◌/◌, ◌%◌, ◌^◌}
use mathlib.Core.Path.{◌≡◌, refl, ap}
use mathlib.Core.List.{[], ◌∷◌}
use Rattle.basics.specs.Told.{values, refusal}
use Rattle.counts.specs.Counts.{binom}
use Rattle.sets.specs.declared.Refusal.{Refusal}
use Rattle.sets.specs.Answers.{refusal_number}
use Rattle.sets.proofs.Examples.{fours}
use Rattle.division.specs.Division.{start}
use Rattle.std.specs.Prelude.{Ok, Err}
use Rattle.division.specs.Answers.{job_told, job_ranks}

pub job_three_of_seven : job_ranks 24 2 3 7 ≡ values (118 ∷ 157 ∷ [])
unfolding binom
job_three_of_seven = refl

pub job_two_of_sixteen : job_ranks 512 4 2 16 ≡ values (353734640 ∷ 530601960 ∷ [])
job_two_of_sixteen = ap (λ (all : ℕ). values (start all 16 2 ∷ start all 16 3 ∷ [])) fours

-- where a product of 32 bits would put that job
pub wrapped-product : 2 * 2829877120 % 2 ^ 32 / 16 ≡ 85299184
wrapped-product = refl

-- the limits: 12 before 17 before 19, and the last that is taken
pub job-limits : (job_ranks 513 8 0 0 ≡ refusal 12) × (job_ranks 512 8 0 0 ≡ refusal 17) × (job_ranks 4 2 0 0 ≡ refusal 19) × (job_ranks 4 2 0 65537 ≡ refusal 19) × (job_ranks 4 2 7 7 ≡ refusal 19) × (job_ranks 4 2 6 7 ≡ values (5 ∷ 6 ∷ [])) × (job_ranks 4 2 65535 65536 ≡ values (5 ∷ 6 ∷ []))
unfolding binom
job-limits = (refl, refl, refl, refl, refl, refl, refl)

-- what each answer tells
pub numbers : ((from to : ℕ) → job_told (Ok (record { from = from; to = to })) ≡ values (from ∷ to ∷ []))
    × ((why : Refusal) → job_told (Err why) ≡ refusal (refusal_number why))
numbers = (λ from to. refl, λ why. refl)
