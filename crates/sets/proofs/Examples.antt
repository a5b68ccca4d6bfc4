-- The scope's examples on numbering, and every refusal, from the definitions that the contracts cite.
use Prim.Native.Nat.{ℕ, ◌≤◌}
use native.Mathlib.Omega.{arith}
use mathlib.Core.Path.{◌≡◌, refl, ap, subst, ◌∙◌}
use mathlib.Core.List.{List, [], ◌∷◌, map}
use lib.ListN.{replicate}
use Rattle.limits.specs.Limits.{max_wires}
use Rattle.counts.specs.Counts.{binom}
use Rattle.counts.proofs.Rows.{binom_row}
use Rattle.counts.proofs.Binomial.{binom_wider}
use Rattle.revolving.specs.Order.{revolving, set_at}
use Rattle.basics.specs.Told.{values, refusal, turned_down}
use Rattle.sets.specs.Answers.{refusal_number, count_told, set_told, rank_told, set_count, set_from_rank, rank_from_set}
use Rattle.sets.specs.declared.Refusal.{Refusal}
use Rattle.sets.specs.declared.Refusal.TheVariants.{TooManyWires, SizeTooLarge, BufferTooShort, RankTooLarge, NoSuchJob, NotASet}
use Rattle.std.specs.Prelude.{⊤, Ok, Err}
use Rattle.sets.specs.Visits.{SetTells}
use Rattle.revolving.proofs.Revolving.{set_at_wider}
use Rattle.sets.proofs.Entries.{at_told}

pub pairs_of_four : revolving 4 2 ≡ (0 ∷ 1 ∷ []) ∷ (1 ∷ 2 ∷ []) ∷ (0 ∷ 2 ∷ []) ∷ (2 ∷ 3 ∷ []) ∷ (1 ∷ 3 ∷ []) ∷ (0 ∷ 3 ∷ []) ∷ []
unfolding revolving
pairs_of_four = refl

pairs_of_three : (binom 3 2 ≡ 3) × (set_at 3 2 1 ≡ 1 ∷ 2 ∷ [])
unfolding binom revolving
pairs_of_three = (refl, refl)

-- rank 1 of pairs is 1, 2, out of any number of wires that has such a pair
pub rank-one_of_pairs : (n : ℕ) → 3 ≤ n → n ≤ max_wires → SetTells n 2 1 (1 ∷ 2 ∷ [])
rank-one_of_pairs n a b =
    let three = pairs_of_three.0 in
    subst (SetTells n 2 1) (set_at_wider 3 n 2 1 a (omega (arith, three)) ∙ pairs_of_three.1)
    (at_told n 2 b (omega arith) 1 (omega (arith, three, binom_wider 3 n 2 a)))

pub written_at_start : set_from_rank 4 2 5 (9 ∷ 9 ∷ 9 ∷ []) ≡ record { told = values []; held = 0 ∷ 3 ∷ 9 ∷ [] }
unfolding binom revolving
written_at_start = refl

pub pairs_of_24 : set_count 24 2 ≡ values (276 ∷ [])
unfolding binom
pairs_of_24 = refl

pub fours : binom 512 4 ≡ 2829877120
fours = binom_row 512 4 (omega arith)

pub fours_of_512 : set_count 512 4 ≡ values (2829877120 ∷ [])
fours_of_512 = ap (λ (all : ℕ). values (all ∷ [])) fours

-- the limits: 12 before 17, and the last that is taken
pub count-limits : (set_count 513 8 ≡ refusal 12) × (set_count 512 8 ≡ refusal 17) × (set_count 512 7 ≡ values (binom 512 7 ∷ []))
count-limits = (refl, refl, refl)

pub set-limits : (set_from_rank 513 8 0 [] ≡ turned_down 12 []) × (set_from_rank 512 8 0 [] ≡ turned_down 17 []) × (set_from_rank 4 2 6 (9 ∷ []) ≡ turned_down 16 (9 ∷ [])) × (set_from_rank 4 2 6 (9 ∷ 9 ∷ []) ≡ turned_down 18 (9 ∷ 9 ∷ [])) × (set_from_rank 0 0 0 [] ≡ record { told = values []; held = [] })
unfolding binom revolving
set-limits = (refl, refl, refl, refl, refl)

pub rank-limits : (rank_from_set 513 (replicate 8 0) ≡ refusal 12) × (rank_from_set 512 (replicate 8 0) ≡ refusal 17) × (rank_from_set 4 (1 ∷ 1 ∷ []) ≡ refusal 21) × (rank_from_set 4 (3 ∷ 4 ∷ []) ≡ refusal 21) × (rank_from_set 4 (0 ∷ 3 ∷ []) ≡ values (5 ∷ [])) × (rank_from_set 4 [] ≡ values (0 ∷ []))
unfolding revolving
rank-limits = (refl, refl, refl, refl, refl, refl)

-- the number of each refusal, and what each answer tells
pub numbers : (map refusal_number (TooManyWires ∷ SizeTooLarge ∷ BufferTooShort ∷ RankTooLarge ∷ NoSuchJob ∷ NotASet ∷ []) ≡ 12 ∷ 17 ∷ 16 ∷ 18 ∷ 19 ∷ 21 ∷ [])
    × ((n : ℕ) → count_told (Ok n) ≡ values (n ∷ []))
    × ((why : Refusal) → count_told (Err why) ≡ refusal (refusal_number why))
    × ((done : ⊤) (l : List ℕ) → set_told (Ok done) l ≡ record { told = values []; held = l })
    × ((why : Refusal) (l : List ℕ) → set_told (Err why) l ≡ record { told = refusal (refusal_number why); held = l })
    × ((n : ℕ) → rank_told (Ok n) ≡ values (n ∷ []))
    × ((why : Refusal) → rank_told (Err why) ≡ refusal (refusal_number why))
numbers = (refl, λ n. refl, λ why. refl, λ done l. refl, λ why l. refl, λ n. refl, λ why. refl)
