-- The number of sets of a size (scope, "Numbering and dividing").
--     binom n k       how many sets of k out of n wires there are: Pascal's rule
--     Counts table    the table holds them: at 8 n + k that of k out of n, for 0 to 512 wires and sizes 0 to 7
use Rattle.std.specs.Prelude.{ℕ, zero, suc, ◌+◌, ◌*◌, ◌≤◌, ◌≡◌, List, get_or}
use Rattle.limits.specs.Limits.{max_wires, max_size, sizes}

-- those without wire n, and those with it
unfoldable pub binom : ℕ → ℕ → ℕ
binom n zero = 1
binom zero (suc k) = 0
binom (suc n) (suc k) = binom n (suc k) + binom n k

unfoldable pub Counts : List ℕ → Type 0
Counts table = (n k : ℕ) → n ≤ max_wires → k ≤ max_size → get_or table (sizes * n + k) 0 ≡ binom n k
