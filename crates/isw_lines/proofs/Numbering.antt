-- The number of a pair by a formula, and how large it may be.
--     pair_doubled      twice a pair's number, in sums
--     pair_formula      the number of a pair
--     pairs_formula     how many pairs there are
--     pairs-some, pairs-few       one at least, and within the limits of masks
--     rows_small, pairs_small     what is computed on the way is small
--     pair_small                  a pair's number is within the limits of masks
use Prim.Native.Nat.{ℕ, zero, suc, ◌+◌, ◌*◌, ◌-◌, ◌/◌, ◌≤◌, ◌<◌}
use native.Mathlib.Nat.{le_of_suc-le-suc, not-suc-le-zero, mul-le-mul}
use native.Mathlib.Omega.{arith}
use mathlib.Core.Path.{◌≡◌, ◌∙◌, ap}
use Rattle.limits.specs.Limits.{max_masks}
use Rattle.isw_gadget.specs.Pairs.{pairs, pair_number}
use Rattle.isw_gadget.specs.Answers.{max_isw_order}
use Rattle.isw_gadget.proofs.Pairs.{pairs_half, pair_below}
use Rattle.isw_gadget.proofs.Reading.{written-fits}

pair_doubled : (d i j : ℕ) → i < j → j ≤ d → 2 * pair_number d i j + 2 * i + 2 + i * i ≡ 2 * j + i * (2 * d + 1)
pair_doubled d i zero h l = absurd (not-suc-le-zero h)
pair_doubled zero i (suc j) h l = absurd (not-suc-le-zero l)
pair_doubled (suc d) zero (suc j) h l = omega arith
pair_doubled (suc d) (suc i) (suc j) h l =
    let ih = pair_doubled d i j (le_of_suc-le-suc h) (le_of_suc-le-suc l) in omega (arith, ih)

module _ (d i j : ℕ) (h : i < j) (l : j ≤ d) where
  -- the pairs of the rows before
  rows : i * (2 * d + 1 - i) + i * i ≡ i * (2 * d + 1)
  rows =
      let e : (2 * d + 1 - i) + i ≡ 2 * d + 1 = omega (arith, h, l) in
      let f : i * (2 * d + 1 - i) + i * i ≡ i * ((2 * d + 1 - i) + i) = omega arith in
      f ∙ ap (λ (k : ℕ). i * k) e

  pub pair_formula : i * (2 * d + 1 - i) / 2 + j - i - 1 ≡ pair_number d i j
  pair_formula =
      let twice = pair_doubled d i j h l in
      let before = rows in
      omega (arith, twice, before, h)

pub rows_small : (d i : ℕ) → i ≤ d → d ≤ max_isw_order → i * (2 * d + 1 - i) ≤ max_isw_order * (2 * max_isw_order + 1)
rows_small d i h l =
    let row : i ≤ max_isw_order = omega (arith, h, l) in
    let long : 2 * d + 1 - i ≤ 2 * max_isw_order + 1 = omega (arith, l) in
    mul-le-mul row long

pub pairs_formula : (d : ℕ) → d * (d + 1) / 2 ≡ pairs d
pairs_formula d = let half = pairs_half d in omega (arith, half)

pub pairs-some : (d : ℕ) → 1 ≤ d → 1 ≤ pairs d
pairs-some zero h = absurd (not-suc-le-zero h)
pairs-some (suc d) h = omega arith

pub pairs_small : (d : ℕ) → d ≤ max_isw_order → d * (d + 1) ≤ max_isw_order * (max_isw_order + 1)
pairs_small d l = let more : d + 1 ≤ max_isw_order + 1 = omega (arith, l) in mul-le-mul l more

pub pairs-few : (d : ℕ) → 1 ≤ d → d ≤ max_isw_order → pairs d ≤ max_masks
pairs-few d l h = (written-fits d l h).few-masks

pub pair_small : (d i j : ℕ) → i < j → j ≤ d → d ≤ max_isw_order → pair_number d i j < max_masks
pair_small d i j h l m =
    let number = pair_below d i j h l in
    let few = pairs-few d (omega (arith, h, l)) m in
    omega (arith, number, few)
