-- Which masks a sum has.
--     lowest-mask     a word of masks that has one has its lowest
use Prim.Native.Nat.{ℕ, zero, suc, ◌^◌, ◌<◌}
use native.Mathlib.Omega.{arith}
use mathlib.Core.Path.{◌≡◌, sym, ap, ◌∙◌}
use mathlib.Core.Bool.{true, false, not, false≢true}
use mir.Syntax.{w64}
use lib.Dec.{eqb}
use Rattle.std.specs.Int.{trailing_zeros}
use Rattle.std.proofs.lemmas.Nat.Bits.{bit_at-trailing_zeros}
use Rattle.limits.specs.Limits.{max_masks}
use Rattle.wires.specs.Wires.{masked}
use Rattle.records.specs.Words.{bit}
use Rattle.records.specs.Layout.{decode_terms}
use Rattle.records.proofs.Words.{zero_test}

pub lowest-mask : (p m a b : ℕ) → m < 2 ^ 64 → masked max_masks (decode_terms p m a b) ≡ true
    → (trailing_zeros w64 m < max_masks) × (bit m (trailing_zeros w64 m) ≡ true)
unfolding masked bit
lowest-mask p m a b fits one =
    let low = bit_at-trailing_zeros w64 m (above m (zero_test 64 m fits ∙ ap not one)) fits in
    (low.0, ap (λ (x : ℕ). eqb x 1) low.1)
  where
    above : (k : ℕ) → eqb k 0 ≡ false → 0 < k
    above zero e = absurd (false≢true (sym e))
    above (suc k) e = omega arith
