-- Sums of symbols: what they mean, and that they fit into a record, where the symbols are shares of the order and declared masks.
--     count_low                    the mask count is within its limit
--     sum-append                   the sum of symbols in two parts
--     sum_means                    a sum of symbols means the terms that the symbols name, added
--     symbol-within, sum-within    the sum of a symbol, of symbols, has no bit beyond the shares and masks
--     symbol-small, sum-small      and fits into a record
use Prim.Native.Nat.{ℕ, ◌+◌, ◌≤◌, ◌<◌}
use native.Mathlib.Omega.{arith}
use mathlib.Core.Path.{◌≡◌, refl, sym, ◌∙◌, ap, ap₂, subst}
use mathlib.Core.Logic.{◌⊎◌, inl, inr}
use mathlib.Core.Bool.{Bool, true, false, ◌&&◌, false≢true, and-false}
use mathlib.Core.List.{List, [], ◌∷◌, ◌++◌}
use borrow.Author.Tests.{ltb-true, leb-true, eqb-true, ne_eqb}
use lib.Dec.{eqb, ltb, leb}
use Rattle.limits.specs.Limits.{max_shares, max_masks}
use Rattle.basics.specs.Folds.{fold, every}
use Rattle.basics.proofs.Tests.{and_left, and_right, or_cases}
use Rattle.basics.proofs.Folds.{fold-append}
use Rattle.wires.specs.declared.Symbol.{Symbol}
use Rattle.wires.specs.declared.Symbol.TheVariants.{Product, ShareA, ShareB, Mask}
use Rattle.wires.specs.Wires.{none, plus}
use Rattle.wires.proofs.Units.{symbol_terms}
use Rattle.wires.proofs.Narrow.{Within, within_none, within-plus}
use Rattle.records.specs.Layout.{terms_of, no_sum, plus_sum}
use Rattle.record_words.specs.Symbols.{symbol_sum}
use Rattle.record_words.proofs.Naming.{none_means, plus_means, symbol_means, sum_assoc}
use Rattle.record_words.proofs.Encoding.{Fits, none-fits, plus-fits, symbol-fits}
use Rattle.description.specs.Symbols.{max_mask}
use Rattle.description.specs.Grammar.{member, known, sum_of, mask_count}
use Rattle.description.proofs.Numbers.{larger-max}
use Rattle.description.proofs.Spelling.{known_small}

-- ---- the numbers of masks

member-counted : (k : ℕ) (names : List ℕ) → member k names ≡ true → k < mask_count names
member-counted k [] m = absurd (false≢true m)
member-counted k (n ∷ names) m = go (or_cases (eqb k n) (member k names) m) (member-counted k names)
  where
    go : (eqb k n ≡ true) ⊎ (member k names ≡ true) → (member k names ≡ true → k < mask_count names) → k < mask_count (n ∷ names)
    go (inl p) rest =
        let e = eqb-true k n p in
        let l = larger-max (n + 1) (mask_count names) in
        omega (arith, e, l)
    go (inr p) rest =
        let h = rest p in
        let l = larger-max (n + 1) (mask_count names) in
        omega (arith, h, l)

pub count_low : (names : List ℕ) → every (λ k. leb k max_mask) names ≡ true → mask_count names ≤ max_masks
count_low [] e = omega arith
count_low (k ∷ names) e =
    let first = leb-true k max_mask (and_left (leb k max_mask) (every (λ k. leb k max_mask) names) e) in
    let others = count_low names (and_right (leb k max_mask) (every (λ k. leb k max_mask) names) e) in
    let l = larger-max (k + 1) (mask_count names) in
    omega (arith, first, others, l)

-- ---- what sums of symbols mean

pub sum-append : (k l : List Symbol) → sum_of (k ++ l) ≡ plus_sum (sum_of k) (sum_of l)
sum-append = fold-append plus_sum no_sum (λ s. refl) sum_assoc symbol_sum

module _ (n : ℕ) (names : List ℕ) (few : n ≤ max_shares) (low : every (λ k. leb k max_mask) names ≡ true) where
  -- the first of symbols that are all known, and the others
  first-known : (s : Symbol) (l : List Symbol) → every (known n names) (s ∷ l) ≡ true → known n names s ≡ true
  first-known s l e = and_left (known n names s) (every (known n names) l) e

  others-known : (s : Symbol) (l : List Symbol) → every (known n names) (s ∷ l) ≡ true → every (known n names) l ≡ true
  others-known s l e = and_right (known n names s) (every (known n names) l) e

  pub sum_means : (l : List Symbol) → every (known n names) l ≡ true → terms_of (sum_of l) ≡ fold plus none symbol_terms l
  sum_means [] e = none_means
  sum_means (s ∷ l) e =
      plus_means (symbol_sum s) (sum_of l)
      ∙ ap₂ plus (symbol_means s (known_small n names s few low (first-known s l e))) (sum_means l (others-known s l e))

  -- ---- sums fit into a record

  apart : (k i : ℕ) → i < n → n ≤ k → eqb k i ≡ false
  apart k i h l = ne_eqb k i (λ e. omega (arith, h, l, e))

  terms-within : (s : Symbol) → known n names s ≡ true → Within max_shares max_masks n (mask_count names) (symbol_terms s)
  terms-within (Product i j) e = record {
    no_product_lem = λ k l c d h. out k l h;
    no_a = λ k c h. refl;
    no_b = λ k c h. refl;
    no_mask_lem = λ k c h. refl;
  }
    where
      out : (k l : ℕ) → (n ≤ k) ⊎ (n ≤ l) → (eqb k i && eqb l j) ≡ false
      out k l (inl h) = ap (λ (b : Bool). b && eqb l j) (apart k i (ltb-true i n (and_left (ltb i n) (ltb j n) e)) h)
      out k l (inr h) =
          ap (λ (b : Bool). eqb k i && b) (apart l j (ltb-true j n (and_right (ltb i n) (ltb j n) e)) h) ∙ and-false (eqb k i)
  terms-within (ShareA i) e =
      record { no_product_lem = λ k l c d h. refl; no_a = λ k c h. apart k i (ltb-true i n e) h; no_b = λ k c h. refl; no_mask_lem = λ k c h. refl }
  terms-within (ShareB j) e =
      record { no_product_lem = λ k l c d h. refl; no_a = λ k c h. refl; no_b = λ k c h. apart k j (ltb-true j n e) h; no_mask_lem = λ k c h. refl }
  terms-within (Mask i) e =
      record {
        no_product_lem = λ k l c d h. refl;
        no_a = λ k c h. refl;
        no_b = λ k c h. refl;
        no_mask_lem = λ k c h. let low = member-counted i names e in ne_eqb k i (λ p. omega (arith, low, h, p));
      }

  pub symbol-within : (s : Symbol) → known n names s ≡ true → Within max_shares max_masks n (mask_count names) (terms_of (symbol_sum s))
  symbol-within s e =
      subst (Within max_shares max_masks n (mask_count names)) (sym (symbol_means s (known_small n names s few low e))) (terms-within s e)

  pub sum-within : (l : List Symbol) → every (known n names) l ≡ true → Within max_shares max_masks n (mask_count names) (terms_of (sum_of l))
  sum-within l e = subst (Within max_shares max_masks n (mask_count names)) (sym (sum_means l e)) (go l e)
    where
      go : (l : List Symbol) → every (known n names) l ≡ true → Within max_shares max_masks n (mask_count names) (fold plus none symbol_terms l)
      go [] e = within_none max_shares max_masks n (mask_count names)
      go (s ∷ l) e =
          within-plus max_shares max_masks n (mask_count names) (symbol_terms s) (fold plus none symbol_terms l) (terms-within s (first-known s l e))
          (go l (others-known s l e))

  pub symbol-small : (s : Symbol) → known n names s ≡ true → Fits (symbol_sum s)
  symbol-small s e = symbol-fits s (known_small n names s few low e)

  pub sum-small : (l : List Symbol) → every (known n names) l ≡ true → Fits (sum_of l)
  sum-small [] e = none-fits
  sum-small (s ∷ l) e = plus-fits (symbol_sum s) (sum_of l) (symbol-small s (first-known s l e)) (sum-small l (others-known s l e))
