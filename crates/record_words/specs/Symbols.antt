-- The sums of symbols (scope, "Wires"): which bit of a record each symbol has.
--     sum_with          a sum of these words
--     symbol_sum s      the sum that names this symbol alone
--     is_in s t         whether a sum names the symbol
--     Small s          a symbol whose bit stands within a record
use Rattle.std.specs.Prelude.{ℕ, ◌+◌, ◌*◌, ◌^◌, ◌<◌, Bool}
use Rattle.limits.specs.Limits.{max_shares, max_masks}
use Rattle.wires.specs.declared.Symbol.{Symbol}
use Rattle.wires.specs.declared.Symbol.TheVariants.{Product, ShareA, ShareB, Mask}
use Rattle.wires.specs.Wires.{names}
use Rattle.records.specs.Layout.{terms_of}
use Rattle.records.specs.declared.sums.Sum.{Sum}

abbrev pub sum_with : ℕ → ℕ → ℕ → ℕ → Sum
sum_with products masks a b = record { products = products; masks = masks; shares_a = a; shares_b = b }

-- bit 8i + j for a product, bit i or j for a share, bit k for a mask
abbrev pub symbol_sum : Symbol → Sum
symbol_sum (Product i j) = sum_with (2 ^ (8 * i + j)) 0 0 0
symbol_sum (ShareA i) = sum_with 0 0 (2 ^ i) 0
symbol_sum (ShareB j) = sum_with 0 0 0 (2 ^ j)
symbol_sum (Mask k) = sum_with 0 (2 ^ k) 0 0

abbrev pub is_in : Symbol → Sum → Bool
is_in s t = names (terms_of t) s

abbrev pub Small : Symbol → Type 0
Small (Product i j) = (i < max_shares) × (j < max_shares)
Small (ShareA i) = i < max_shares
Small (ShareB j) = j < max_shares
Small (Mask k) = k < max_masks
