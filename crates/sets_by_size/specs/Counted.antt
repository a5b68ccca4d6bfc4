-- How many sets there are of each size up to an order, and all together (request No. 3).
--     set_counts         the number of sets of each size from 1 to the order
--     counted           the same, and 0 for the sizes above
--     most, capped      the largest number of 64 bits; a number as far as it is not above
--     total_of           all sets together
use Rattle.std.specs.Prelude.{ℕ, zero, suc, ◌+◌, ◌-◌, ◌^◌, cond, List, [], ◌∷◌, ◌++◌, ltb, replicate}
use Rattle.limits.specs.Limits.{max_order}
use Rattle.basics.specs.Folds.{fold}
use Rattle.counts.specs.Counts.{binom}

-- "for each size from 1 to the order the number of sets"
abbrev pub set_counts : ℕ → ℕ → List ℕ
set_counts wires zero = []
set_counts wires (suc k) = set_counts wires k ++ (binom wires (suc k) ∷ [])

abbrev pub counted : ℕ → ℕ → List ℕ
counted wires order = set_counts wires order ++ replicate (max_order - order) 0

-- ---- all sets together

abbrev pub most : ℕ
most = 2 ^ 64 - 1

abbrev pub capped : ℕ → ℕ
capped n = cond (ltb most n) most n

abbrev pub total_of : List ℕ → ℕ
total_of sets = capped (fold ◌+◌ 0 (λ n. n) sets)
