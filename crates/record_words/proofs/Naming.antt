-- Sums of symbols: what they mean, and which symbols they name.
--     none_means, plus_means     the sum of no records means no terms, that of two sums the terms of both, added
--     symbol_means               the sum of a symbol means the terms that name it alone
--     none_in                    the sum of no records names no symbol
--     symbol_more                a symbol added to a sum is changed in it, and no other is
--     sum-none, sum_assoc        nothing added to a sum; three sums, in any grouping
use Prim.Native.Nat.{ℕ, ◌+◌, ◌*◌, ◌^◌, ◌<◌}
use native.Mathlib.Omega.{arith}
use mathlib.Core.Path.{◌≡◌, refl, ◌∙◌, ap, ap₂}
use mathlib.Core.Bool.{Bool, true, false, ◌&&◌, xor, and-false}
use borrow.Author.Tests.{ltb-true, eqb-true, lt-ltb, eq-eqb}
use lib.Bits.{xor_zero_r}
use lib.Dec.{eqb, ltb}
use Rattle.basics.proofs.Tests.{and_left, and_right, and_both, bool_ext}
use Rattle.wires.specs.declared.Symbol.{Symbol}
use Rattle.wires.specs.declared.Symbol.TheVariants.{Product, ShareA, ShareB, Mask}
use Rattle.wires.specs.Wires.{Terms, names, none, plus, swap}
use Rattle.wires.proofs.Units.{just_product, just_share, just_mask, symbol_terms, named_alone, alone_named}
use Rattle.wires.proofs.Value.{terms_ext}
use Rattle.records.specs.declared.sums.Sum.{Sum}
use Rattle.records.specs.Words.{bit}
use Rattle.records.specs.Layout.{terms_of, no_sum, plus_sum}
use Rattle.record_words.specs.Symbols.{sum_with, symbol_sum, is_in, Small}
use Rattle.records.proofs.Words.{bit-zero, bit_power, words_assoc}
use Rattle.records.proofs.Adding.{words_zero, words_added}

-- ---- what sums mean

pub none_means : terms_of no_sum ≡ none
none_means = words_zero

pub plus_means : (s t : Sum) → terms_of (plus_sum s t) ≡ plus (terms_of s) (terms_of t)
plus_means s t =
    words_added s.products t.products s.masks t.masks s.shares_a t.shares_a s.shares_b t.shares_b

-- the row and the column of a product's bit
product-bit : (i j : ℕ) → j < 8 → (k l : ℕ) → (ltb l 8 && bit (2 ^ (8 * i + j)) (8 * k + l)) ≡ (eqb k i && eqb l j)
product-bit i j h k l =
    ap (λ (b : Bool). ltb l 8 && b) (bit_power (8 * i + j) (8 * k + l))
    ∙ bool_ext (ltb l 8 && eqb (8 * k + l) (8 * i + j)) (eqb k i && eqb l j) there back
  where
    there : (ltb l 8 && eqb (8 * k + l) (8 * i + j)) ≡ true → (eqb k i && eqb l j) ≡ true
    there e =
        let low = ltb-true l 8 (and_left (ltb l 8) (eqb (8 * k + l) (8 * i + j)) e) in
        let place = eqb-true (8 * k + l) (8 * i + j) (and_right (ltb l 8) (eqb (8 * k + l) (8 * i + j)) e) in
        and_both (eqb k i) (eqb l j) (eq-eqb k i (omega (arith, h, low, place))) (eq-eqb l j (omega (arith, h, low, place)))

    back : (eqb k i && eqb l j) ≡ true → (ltb l 8 && eqb (8 * k + l) (8 * i + j)) ≡ true
    back e =
        let row = eqb-true k i (and_left (eqb k i) (eqb l j) e) in
        let column = eqb-true l j (and_right (eqb k i) (eqb l j) e) in
        and_both (ltb l 8) (eqb (8 * k + l) (8 * i + j)) (lt-ltb l 8 (omega (arith, h, column)))
        (eq-eqb (8 * k + l) (8 * i + j) (omega (arith, row, column)))

no_product : (k l : ℕ) → (ltb l 8 && bit 0 (8 * k + l)) ≡ false
no_product k l = ap (λ (b : Bool). ltb l 8 && b) (bit-zero (8 * k + l)) ∙ and-false (ltb l 8)

pub symbol_means : (s : Symbol) → Small s → terms_of (symbol_sum s) ≡ symbol_terms s
symbol_means (Product i j) h =
    terms_ext (terms_of (symbol_sum (Product i j))) (just_product i j) (product-bit i j h.1) bit-zero bit-zero bit-zero
symbol_means (ShareA i) h = terms_ext (terms_of (symbol_sum (ShareA i))) (just_share i) no_product (bit_power i) bit-zero bit-zero
symbol_means (ShareB j) h = terms_ext (terms_of (symbol_sum (ShareB j))) (swap (just_share j)) no_product bit-zero (bit_power j) bit-zero
symbol_means (Mask k) h = terms_ext (terms_of (symbol_sum (Mask k))) (just_mask k) no_product bit-zero bit-zero (bit_power k)

-- ---- which symbols a sum names

pub none_in : (s : Symbol) → is_in s no_sum ≡ false
none_in (Product i j) = no_product i j
none_in (ShareA i) = bit-zero i
none_in (ShareB j) = bit-zero j
none_in (Mask k) = bit-zero k

named-plus : (t u : Terms) (s : Symbol) → names (plus t u) s ≡ xor (names t s) (names u s)
named-plus t u (Product i j) = refl
named-plus t u (ShareA i) = refl
named-plus t u (ShareB j) = refl
named-plus t u (Mask k) = refl

-- b tells whether the symbols are the same
pub symbol_more : (s u : Symbol) (t : Sum) (b : Bool) → Small u → (b ≡ true → s ≡ u) → (s ≡ u → b ≡ true)
    → is_in s (plus_sum t (symbol_sum u)) ≡ xor (is_in s t) b
symbol_more s u t b h there back =
    ap (λ (x : Terms). names x s) (plus_means t (symbol_sum u) ∙ ap (plus (terms_of t)) (symbol_means u h))
    ∙ named-plus (terms_of t) (symbol_terms u) s
    ∙ ap (xor (is_in s t))
    (bool_ext (names (symbol_terms u) s) b (λ e. back (named_alone s u e))
    (λ e. ap (λ (v : Symbol). names (symbol_terms u) v) (there e) ∙ alone_named u))

-- ---- sums in parts

sum_ext : (s t : Sum) → s.products ≡ t.products → s.masks ≡ t.masks → s.shares_a ≡ t.shares_a → s.shares_b ≡ t.shares_b → s ≡ t
sum_ext s t p m a b =
    ap₂ (λ (x y : ℕ). sum_with x y s.shares_a s.shares_b) p m ∙ ap₂ (λ (x y : ℕ). sum_with t.products t.masks x y) a b

pub sum-none : (s : Sum) → plus_sum s no_sum ≡ s
sum-none s =
    sum_ext (plus_sum s no_sum) s (xor_zero_r s.products) (xor_zero_r s.masks) (xor_zero_r s.shares_a) (xor_zero_r s.shares_b)

pub sum_assoc : (s t u : Sum) → plus_sum (plus_sum s t) u ≡ plus_sum s (plus_sum t u)
sum_assoc s t u =
    sum_ext (plus_sum (plus_sum s t) u) (plus_sum s (plus_sum t u)) (words_assoc s.products t.products u.products)
    (words_assoc s.masks t.masks u.masks) (words_assoc s.shares_a t.shares_a u.shares_a)
    (words_assoc s.shares_b t.shares_b u.shares_b)
