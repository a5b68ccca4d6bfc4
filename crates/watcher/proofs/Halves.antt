-- Half of a set of bit lists: where one list of the set turns a bit around, half of the set has the bit.
--     Additive, Closed      a bit of a sum is the sum of the bits; a set to which adding one of its lists changes nothing
--     halves                where adding one list keeps the set and turns the bit around, half of the set has the bit
--     half, half_at_most    in a closed set, half has an additive bit if one of its lists does; at most half has it in any case
use Prim.Native.Nat.{ℕ, ◌+◌, ◌≤◌}
use native.Mathlib.Nat.{le_of_eq}
use native.Mathlib.Omega.{arith}
use mathlib.Core.Path.{◌≡◌, refl, sym, ◌∙◌, ap, ap₂}
use mathlib.Core.Bool.{Bool, true, false, not, ◌&&◌, xor}
use mathlib.Core.List.{List}
use lib.ListN.{length}
use Rattle.basics.specs.Folds.{some, count, one_if}
use Rattle.basics.proofs.Tests.{and_left, and_right, xor-true}
use Rattle.basics.proofs.Folds.{fold_cong}
use Rattle.watcher.specs.Watcher.{bit_lists}
use Rattle.watcher.proofs.Counting.{count_split, count_none}
use Rattle.watcher.proofs.Bits.{add, bits_where, bits_shift}

abbrev pub Additive : (List Bool → Bool) → Type 0
Additive h = (l d : List Bool) → h (add l d) ≡ xor (h l) (h d)

abbrev pub Closed : (List Bool → Bool) → Type 0
Closed s = (d : List Bool) → s d ≡ true → (l : List Bool) → s (add l d) ≡ s l

module _ (n : ℕ) (s h : List Bool → Bool) where
  abbrev both : ℕ
  both = count (λ l. s l && h l) (bit_lists n)

  pub halves : (d : List Bool) → length d ≤ n → ((l : List Bool) → s (add l d) ≡ s l) → ((l : List Bool) → h (add l d) ≡ not (h l))
      → both + both ≡ count s (bit_lists n)
  halves d short same turned = ap (λ (k : ℕ). both + k) (sym (bits_shift n (λ l. one_if (s l && h l)) d short) ∙ others) ∙ count_split s h (bit_lists n)
    where
      others : count (λ l. s (add l d) && h (add l d)) (bit_lists n) ≡ count (λ l. s l && not (h l)) (bit_lists n)
      others =
          fold_cong ◌+◌ 0 (λ l. one_if (s (add l d) && h (add l d))) (λ l. one_if (s l && not (h l))) (bit_lists n)
          (λ l. ap₂ (λ (a b : Bool). one_if (a && b)) (same l) (turned l))

  module _ (closed : Closed s) (adds : Additive h) where
    pub half : (d : List Bool) → length d ≤ n → (s d && h d) ≡ true → both + both ≡ count s (bit_lists n)
    half d short e =
        halves d short (closed d (and_left (s d) (h d) e))
        (λ l. adds l d ∙ ap (xor (h l)) (and_right (s d) (h d) e) ∙ xor-true (h l))

    pub half_at_most : both + both ≤ count s (bit_lists n)
    half_at_most = go (some (λ l. s l && h l) (bit_lists n)) refl
      where
        go : (b : Bool) → some (λ l. s l && h l) (bit_lists n) ≡ b → both + both ≤ count s (bit_lists n)
        go true e = let w = bits_where n (λ l. s l && h l) e in le_of_eq (half w.0 (le_of_eq w.1) w.2)
        go false e = omega (arith, count_none (λ l. s l && h l) (bit_lists n) e)
