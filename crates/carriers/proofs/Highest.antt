-- The highest number below a limit that passes a test, for any test, counted from 1.
--     highest_most       it is at most the limit
--     highest_passes     where it is not 0 the number that it counts passes
--     highest_none       no number from there to the limit does
--     carrier_read       what the list of carriers holds
use Prim.Native.Nat.{ℕ, zero, suc, ◌-◌, ◌≤◌, ◌<◌, zero-le}
use native.Mathlib.Decide.{dec_lt}
use native.Mathlib.Omega.{arith}
use mathlib.Core.Path.{◌≡◌, refl, ap, ◌∙◌}
use mathlib.Core.Bool.{Bool, true, false, cond}
use mathlib.Core.List.{List}
use Rattle.limits.specs.Limits.{max_masks}
use Rattle.records.specs.Layout.{wire_count}
use Rattle.carriers.specs.Carriers.{carries, highest_below, highest_at, Carriers}

pub highest_most : (test : ℕ → Bool) (limit : ℕ) → highest_below test limit ≤ limit
highest_most test zero = zero-le
highest_most test (suc limit) = go (test limit) (highest_most test limit)
  where
    go : (b : Bool) → highest_below test limit ≤ limit → cond b (suc limit) (highest_below test limit) ≤ suc limit
    go true h = omega arith
    go false h = omega (arith, h)

pub highest_passes : (test : ℕ → Bool) (limit : ℕ) → 0 < highest_below test limit → test (highest_below test limit - 1) ≡ true
highest_passes test zero h = let z : ⊥ = omega (arith, h) in absurd z
highest_passes test (suc limit) h = go (test limit) refl (highest_passes test limit) h
  where
    go : (b : Bool) → test limit ≡ b → (0 < highest_below test limit → test (highest_below test limit - 1) ≡ true)
        → 0 < cond b (suc limit) (highest_below test limit) → test (cond b (suc limit) (highest_below test limit) - 1) ≡ true
    go true e below h = let last : suc limit - 1 ≡ limit = omega arith in ap test last ∙ e
    go false e below h = below h

pub highest_none : (test : ℕ → Bool) (limit w : ℕ) → highest_below test limit ≤ w → w < limit → test w ≡ false
highest_none test zero w h l = let z : ⊥ = omega (arith, l) in absurd z
highest_none test (suc limit) w h l = go (test limit) refl (highest_none test limit w) h
  where
    go : (b : Bool) → test limit ≡ b → (highest_below test limit ≤ w → w < limit → test w ≡ false)
        → cond b (suc limit) (highest_below test limit) ≤ w → test w ≡ false
    go true e below h = let z : ⊥ = omega (arith, h, l) in absurd z
    go false e below h = at (dec_lt w limit)
      where
        at : Dec (w < limit) → test w ≡ false
        at (yes less) = below h less
        at (no more) = let same : w ≡ limit = omega arith in ap test same ∙ e

pub carrier_read : (table carriers : List ℕ) (mask limit : ℕ) → Carriers table carriers → mask < max_masks → limit ≤ wire_count table
    → highest_at carriers mask limit ≡ highest_below (carries table mask) limit
unfolding Carriers
carrier_read table carriers mask limit held m l = held mask limit m l
