-- The functions' records, and the test that no bit of a sum is set.
--     first-products, first_shares      the two tables of the code, by one test over each
--     terms                             what makes words the record of a function
--     product_record, sum_record, copy_record           the records that the code gives for the three functions
--     words_blank                       the test that four words are 0
use Prim.Native.Nat.{ℕ, ◌+◌, ◌*◌, ◌/◌, ◌%◌, ◌^◌, ◌≤◌, ◌<◌, suc-le-suc}
use native.Mathlib.Nat.{mod-lt, zero-lt-suc}
use native.Mathlib.Omega.{arith}
use mathlib.Core.Path.{◌≡◌, refl, sym, ◌∙◌, ap}
use mathlib.Core.Bool.{Bool, true, false, not, ◌&&◌, xor}
use mathlib.Core.List.{List, [], ◌∷◌}
use borrow.Author.Tests.{eqb-true, eq-eqb, ne_eqb, not-true}
use lib.Dec.{eqb, ltb}
use lib.ListN.{get_or}
use Rattle.limits.specs.Limits.{max_shares, max_masks}
use Rattle.basics.specs.Folds.{every, up_to}
use Rattle.basics.proofs.Tests.{and_left, and_right, and_both, bool_ext, xor_same}
use Rattle.basics.proofs.Folds.{every_at}
use Rattle.wires.specs.Function.{function_terms, blank}
use Rattle.wires.proofs.Dependence.{NoBits, blank_bits, bits_blank}
use Rattle.records.specs.Words.{bit}
use Rattle.records.specs.Layout.{decode_terms}
use Rattle.record_tests.specs.Cut.{FirstShares}
use Rattle.records.proofs.Words.{bit-zero, no_bit}
use Rattle.records.proofs.Bytes.{within_row}

abbrev products : List ℕ
products = 0 ∷ 0x01 ∷ 0x0303 ∷ 0x070707 ∷ 0x0f0f0f0f ∷ 0x1f1f1f1f1f ∷ 0x3f3f3f3f3f3f ∷ 0x7f7f7f7f7f7f7f ∷ 0xffffffffffffffff ∷ []

abbrev shares : List ℕ
shares = 0 ∷ 0x01 ∷ 0x03 ∷ 0x07 ∷ 0x0f ∷ 0x1f ∷ 0x3f ∷ 0x7f ∷ 0xff ∷ []

equal : (a b : Bool) → not (xor a b) ≡ true → a ≡ b
equal a b e = xor_same a b (not-true (xor a b) e)

pub first-products : (n i j : ℕ) → n ≤ max_shares → i < max_shares → j < max_shares → bit (get_or products n 0) (8 * i + j) ≡ (ltb i n && ltb j n)
unfolding bit up_to xor
first-products n i j h k l =
    let test : ℕ → ℕ → ℕ → Bool = λ n i j. not (xor (bit (get_or products n 0) (8 * i + j)) (ltb i n && ltb j n)) in
    let all : every (λ n. every (λ i. every (test n i) (up_to max_shares)) (up_to max_shares)) (up_to (max_shares + 1)) ≡ true = refl in
    equal (bit (get_or products n 0) (8 * i + j)) (ltb i n && ltb j n)
    (every_at max_shares j (test n i)
    (every_at max_shares i (λ i. every (test n i) (up_to max_shares)) (every_at (max_shares + 1) n (λ n. every (λ i. every (test n i) (up_to max_shares)) (up_to max_shares)) all (suc-le-suc h)) k) l)

pub first_shares : (n i : ℕ) → n ≤ max_shares → i < max_shares → bit (get_or shares n 0) i ≡ ltb i n
unfolding bit up_to xor
first_shares n i h k =
    let test : ℕ → ℕ → Bool = λ n i. not (xor (bit (get_or shares n 0) i) (ltb i n)) in
    let all : every (λ n. every (test n) (up_to max_shares)) (up_to (max_shares + 1)) ≡ true = refl in
    equal (bit (get_or shares n 0) i) (ltb i n) (every_at max_shares i (test n) (every_at (max_shares + 1) n (λ n. every (test n) (up_to max_shares)) all (suc-le-suc h)) k)

module _ (function n : ℕ) (small : n ≤ max_shares) (x y : Bool) (ex : eqb function 1 ≡ x) (ey : eqb function 2 ≡ y) where
  terms : (p a b : ℕ) → ((i j : ℕ) → i < max_shares → j < max_shares → bit p (8 * i + j) ≡ (x && (ltb i n && ltb j n)))
      → ((i : ℕ) → i < max_shares → bit a i ≡ (not x && ltb i n))
      → ((j : ℕ) → j < max_shares → bit b j ≡ (y && ltb j n)) → FirstShares n (function_terms function) (decode_terms p 0 a b)
  terms p a b ep ea eb = record {
    products = λ i j h k. within_row j (bit p (8 * i + j)) k ∙ ep i j h k ∙ ap (λ (z : Bool). z && (ltb i n && ltb j n)) (sym ex);
    of_a = λ i h. ea i h ∙ ap (λ (z : Bool). not z && ltb i n) (sym ex);
    of_b = λ j h. eb j h ∙ ap (λ (z : Bool). z && ltb j n) (sym ey);
    masks = λ k h. bit-zero k;
  }

pub product_record : (function n : ℕ) → n ≤ max_shares → function ≡ 1 → FirstShares n (function_terms function) (decode_terms (get_or products n 0) 0 0 0)
product_record function n h e =
    terms function n h true false (eq-eqb function 1 e) (ap (λ (f : ℕ). eqb f 2) e) (get_or products n 0) 0 0
    (λ i j k l. first-products n i j h k l) (λ i k. bit-zero i) (λ j k. bit-zero j)

pub sum_record : (function n : ℕ) → n ≤ max_shares → function ≡ 2
    → FirstShares n (function_terms function) (decode_terms 0 0 (get_or shares n 0) (get_or shares n 0))
sum_record function n h e =
    terms function n h false true (ap (λ (f : ℕ). eqb f 1) e) (eq-eqb function 2 e) 0 (get_or shares n 0) (get_or shares n 0)
    (λ i j k l. bit-zero (8 * i + j)) (λ i k. first_shares n i h k) (λ j k. first_shares n j h k)

pub copy_record : (function n : ℕ) → n ≤ max_shares → (function ≡ 1 → ⊥) → (function ≡ 2 → ⊥)
    → FirstShares n (function_terms function) (decode_terms 0 0 (get_or shares n 0) 0)
copy_record function n h e f =
    terms function n h false false (ne_eqb function 1 e) (ne_eqb function 2 f) 0 (get_or shares n 0) 0
    (λ i j k l. bit-zero (8 * i + j)) (λ i k. first_shares n i h k) (λ j k. bit-zero j)

module _ (p m a b : ℕ) (lp : p < 2 ^ 64) (lm : m < 2 ^ 64) (la : a < 2 ^ 8) (lb : b < 2 ^ 8) where
  -- as `==` tests them
  abbrev words-zero : Bool
  words-zero = eqb p 0 && (eqb m 0 && (eqb a 0 && eqb b 0))

  pub words_blank : words-zero ≡ blank max_shares max_masks (decode_terms p m a b)
  words_blank = bool_ext words-zero (blank max_shares max_masks (decode_terms p m a b)) there back
    where
      of_zero : (w k : ℕ) → w ≡ 0 → bit w k ≡ false
      of_zero w k e = ap (λ (x : ℕ). bit x k) e ∙ bit-zero k

      there : words-zero ≡ true → blank max_shares max_masks (decode_terms p m a b) ≡ true
      there e =
          let three = and_right (eqb p 0) (eqb m 0 && (eqb a 0 && eqb b 0)) e in
          let two = and_right (eqb m 0) (eqb a 0 && eqb b 0) three in
          bits_blank max_shares max_masks (decode_terms p m a b) (record {
            no_product_lem = λ i j k l. within_row j (bit p (8 * i + j)) l
                ∙ of_zero p (8 * i + j) (eqb-true p 0 (and_left (eqb p 0) (eqb m 0 && (eqb a 0 && eqb b 0)) e));
            no_share_a = λ i k. of_zero a i (eqb-true a 0 (and_left (eqb a 0) (eqb b 0) two));
            no_share_b = λ j k. of_zero b j (eqb-true b 0 (and_right (eqb a 0) (eqb b 0) two));
            no_mask_lem = λ i k. of_zero m i (eqb-true m 0 (and_left (eqb m 0) (eqb a 0 && eqb b 0) three));
          })

      -- the place of a product's bit: its row and its column
      placed : (q : ℕ) → q < 64 → NoBits max_shares max_masks (decode_terms p m a b) → bit p q ≡ false
      placed q h n =
          let e : 8 * (q / 8) + q % 8 ≡ q = omega arith in
          let r : q / 8 < 8 = omega arith in
          ap (bit p) (sym e) ∙ sym (within_row (q % 8) (bit p (8 * (q / 8) + q % 8)) (mod-lt q (zero-lt-suc 7)))
          ∙ n.no_product_lem (q / 8) (q % 8) r (mod-lt q (zero-lt-suc 7))

      back : blank max_shares max_masks (decode_terms p m a b) ≡ true → words-zero ≡ true
      back e =
          let n = blank_bits max_shares max_masks (decode_terms p m a b) e in
          and_both (eqb p 0) (eqb m 0 && (eqb a 0 && eqb b 0)) (eq-eqb p 0 (no_bit 64 p lp (λ q h. placed q h n)))
          (and_both (eqb m 0) (eqb a 0 && eqb b 0) (eq-eqb m 0 (no_bit 64 m lm n.no_mask_lem))
          (and_both (eqb a 0) (eqb b 0) (eq-eqb a 0 (no_bit 8 a la n.no_share_a)) (eq-eqb b 0 (no_bit 8 b lb n.no_share_b))))
