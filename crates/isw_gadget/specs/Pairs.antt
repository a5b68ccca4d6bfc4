-- The pairs of shares i < j, at most d, in lexicographic order: (0, 1), (0, 2), .. (0, d), (1, 2), .. (d - 1, d).
--     pairs d             how many there are, d (d + 1) / 2
--     pair_number d i j    the place of a pair among them, from 0 on; of no meaning where i < j ≤ d is not so
--     Pair                i < j ≤ d
--     Before              a pair comes before another
--     Numbers             pairs are numbered 0, 1, .. in their order, without a gap; as numbers rise, none is given twice
use Rattle.std.specs.Prelude.{ℕ, zero, suc, ◌+◌, ◌≤◌, ◌<◌, ◌≡◌, ◌⊎◌}

-- d pairs begin with 0, and the others are those of one share less
abbrev pub pairs : ℕ → ℕ
pairs zero = 0
pairs (suc d) = suc d + pairs d

abbrev pub pair_number : ℕ → ℕ → ℕ → ℕ
pair_number d i zero = 0
pair_number zero i (suc j) = 0
pair_number (suc d) zero (suc j) = j
pair_number (suc d) (suc i) (suc j) = suc d + pair_number d i j

abbrev pub Pair : ℕ → ℕ → ℕ → Type 0
Pair d i j = (i < j) × (j ≤ d)

-- lexicographic order
abbrev pub Before : ℕ → ℕ → ℕ → ℕ → Type 0
Before i j k m = (i < k) ⊎ ((i ≡ k) × (j < m))

pub record Numbers (d : ℕ) (number : ℕ → ℕ → ℕ) : Type 0 where
  pub below : (i j : ℕ) → Pair d i j → number i j < pairs d
  pub rising : (i j k m : ℕ) → Pair d i j → Pair d k m → Before i j k m → number i j < number k m
  pub onto : (n : ℕ) → n < pairs d → (i : ℕ) × (j : ℕ) × Pair d i j × (number i j ≡ n)
