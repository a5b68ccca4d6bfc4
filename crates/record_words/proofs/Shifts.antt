-- A symbol's bit in the code's words.
--     small_product, small-share_a, small-share_b, small_mask      the numbers of a symbol whose bit stands within a record
--     sum-product, sum-share_a, sum-share_b, sum-mask              a bit shifted to its place is the symbol's sum
--     in_product, in_share_a, in_share_b, in_mask                  a word shifted down to the bit tells whether a sum names the symbol
use Prim.Native.Nat.{ℕ, ◌+◌, ◌*◌, ◌/◌, ◌%◌, ◌^◌, ◌<◌}
use native.Mathlib.Nat.{mod-eq_of_lt, one-mul}
use native.Mathlib.Omega.{arith}
use mathlib.Core.Path.{◌≡◌, sym, ◌∙◌, ap, subst}
use lib.Dec.{eqb}
use lib.Pow.{pow-lt}
use Rattle.limits.specs.Limits.{max_shares, max_masks}
use Rattle.wires.specs.declared.Symbol.{Symbol}
use Rattle.wires.specs.declared.Symbol.TheVariants.{Product, ShareA, ShareB, Mask}
use Rattle.records.specs.Words.{bit}
use Rattle.records.specs.declared.sums.Sum.{Sum}
use Rattle.record_words.specs.Symbols.{sum_with, symbol_sum, is_in, Small}
use Rattle.records.proofs.Bytes.{within_row}

module _ (s : Symbol) (small : Small s) where
  pub small_product : (i j : ℕ) → s ≡ Product i j → (i < max_shares) × (j < max_shares)
  small_product i j e = subst Small e small

  pub small-share_a : (i : ℕ) → s ≡ ShareA i → i < max_shares
  small-share_a i e = subst Small e small

  pub small-share_b : (j : ℕ) → s ≡ ShareB j → j < max_shares
  small-share_b j e = subst Small e small

  pub small_mask : (k : ℕ) → s ≡ Mask k → k < max_masks
  small_mask k e = subst Small e small

  -- a bit shifted to place k of a word of n bits
  shifted : (n k : ℕ) → k < n → 1 * 2 ^ k % 2 ^ n ≡ 2 ^ k
  shifted n k h = ap (λ (x : ℕ). x % 2 ^ n) (one-mul (2 ^ k)) ∙ mod-eq_of_lt (pow-lt h)

  pub sum-product : (i j : ℕ) → s ≡ Product i j → sum_with (1 * 2 ^ (8 * i + j) % 2 ^ 64) 0 0 0 ≡ symbol_sum s
  sum-product i j e =
      let h = small_product i j e in
      ap (λ (x : ℕ). sum_with x 0 0 0) (shifted 64 (8 * i + j) (omega (arith, h.0, h.1))) ∙ ap symbol_sum (sym e)

  pub sum-share_a : (i : ℕ) → s ≡ ShareA i → sum_with 0 0 (1 * 2 ^ i % 2 ^ 8) 0 ≡ symbol_sum s
  sum-share_a i e = ap (λ (x : ℕ). sum_with 0 0 x 0) (shifted 8 i (small-share_a i e)) ∙ ap symbol_sum (sym e)

  pub sum-share_b : (j : ℕ) → s ≡ ShareB j → sum_with 0 0 0 (1 * 2 ^ j % 2 ^ 8) ≡ symbol_sum s
  sum-share_b j e = ap (λ (x : ℕ). sum_with 0 0 0 x) (shifted 8 j (small-share_b j e)) ∙ ap symbol_sum (sym e)

  pub sum-mask : (k : ℕ) → s ≡ Mask k → sum_with 0 (1 * 2 ^ k % 2 ^ 64) 0 0 ≡ symbol_sum s
  sum-mask k e = ap (λ (x : ℕ). sum_with 0 x 0 0) (shifted 64 k (small_mask k e)) ∙ ap symbol_sum (sym e)

pub in_product : (s : Symbol) → Small s → (t : Sum) (i j : ℕ) → s ≡ Product i j → eqb (t.products / 2 ^ (8 * i + j) % 2) 1 ≡ is_in s t
unfolding bit
in_product s small t i j e =
    sym (within_row j (bit t.products (8 * i + j)) (small_product s small i j e).1) ∙ ap (λ (u : Symbol). is_in u t) (sym e)

pub in_share_a : (s : Symbol) (t : Sum) (i : ℕ) → s ≡ ShareA i → eqb (t.shares_a / 2 ^ i % 2) 1 ≡ is_in s t
unfolding bit
in_share_a s t i e = ap (λ (u : Symbol). is_in u t) (sym e)

pub in_share_b : (s : Symbol) (t : Sum) (j : ℕ) → s ≡ ShareB j → eqb (t.shares_b / 2 ^ j % 2) 1 ≡ is_in s t
unfolding bit
in_share_b s t j e = ap (λ (u : Symbol). is_in u t) (sym e)

pub in_mask : (s : Symbol) (t : Sum) (k : ℕ) → s ≡ Mask k → eqb (t.masks / 2 ^ k % 2) 1 ≡ is_in s t
unfolding bit
in_mask s t k e = ap (λ (u : Symbol). is_in u t) (sym e)
