-- Laws on the bits of words, which know nothing of wires.
--     bit-first, bit-next              bit 0 of n, and bit k + 1 as bit k of its half
--     bit-xor, bit-or, bit-and         the bits of a sum without carry, of a union, of a section
--     bit_shift, bit-low               the bits of a word shifted down, of its lowest digits
--     bit-zero, bit_high               0 has no bit, and a number below 2 ^ d none from d on
--     bits_ext, no_bit                 numbers with the same bits are equal; one with none is 0
--     zero_test, none_from             the tests that a word is 0, that it has no bit from s on
--     ones_count                       the ones of a word are the bits that are set
--     or-fold                          a word united with itself shifted
--     bit_power                        a power of two has one bit
--     words_assoc                      words added without carry, in any grouping
--     byte-once                        the number of a bool is 1 once or not at all
use Prim.Native.Nat.{ℕ, zero, suc, ◌+◌, ◌-◌, ◌*◌, ◌/◌, ◌%◌, ◌^◌, ◌≤◌, ◌<◌, suc-le-suc, zero-le}
use native.Mathlib.Nat.{zero-lt-suc, pow-suc, mod-lt, div-add-mod', le_of_suc-le-suc, lt_of_lt_of_le, div-one, div-eq_of_lt, lt_of_le_of_lt}
use native.Mathlib.Omega.{arith}
use native.Mathlib.Decide.{dec_lt}
use mathlib.Core.Path.{◌≡◌, refl, sym, ◌∙◌, ap, ap₂, subst}
use mathlib.Core.Bool.{Bool, true, false, not, ◌&&◌, ◌||◌, xor, true≢false, false≢true, and-true}
use mir.Val.{bool_byte}
use borrow.Author.Tests.{eq-eqb, eqb-true, le-leb, leb-true}
use lib.Arith.{lt-one}
use lib.Bits.{bit_and, bit_or, bit_xor, and_shr, or_shr, xor_shr, and_mod, or_mod, xor_mod, xor_lt}
use lib.Count.{ones, ones_step, ones-ones}
use lib.Dec.{eqb, leb, eqb-zero-suc, eqb-suc-zero, eqb-suc-suc}
use lib.Pow.{shr-shr, shr_lt, shr_le, pow_mono, field, mod-mod-pow}
use Rattle.basics.specs.Folds.{some, count, one_if, up_to}
use Rattle.basics.proofs.Tests.{bool_ext, and_left, and_right, and_both, xor_assoc}
use Rattle.basics.proofs.Folds.{fold-first, fold_cong, some_at, some_where}
use Rattle.records.specs.Words.{bit}

pub bit_shift : (n s k : ℕ) → bit (n / 2 ^ s) k ≡ bit n (s + k)
unfolding bit
bit_shift n s k = ap (λ (x : ℕ). eqb (x % 2) 1) (shr-shr n s k)

pub bit-next : (n k : ℕ) → bit n (suc k) ≡ bit (n / 2) k
bit-next n k =
    let e : suc k ≡ 1 + k = omega arith in
    ap (bit n) e ∙ sym (bit_shift n 1 k)

pub bit-first : (n : ℕ) → bit n 0 ≡ eqb (n % 2) 1
unfolding bit
bit-first n = ap (λ (x : ℕ). eqb (x % 2) 1) (div-one n)

pub bit-zero : (k : ℕ) → bit 0 k ≡ false
unfolding bit
bit-zero zero = refl
bit-zero (suc k) = bit-next 0 k ∙ bit-zero k

pub bit_high : (d n k : ℕ) → n < 2 ^ d → d ≤ k → bit n k ≡ false
unfolding bit
bit_high d n k h l = ap (λ (x : ℕ). eqb (x % 2) 1) (div-eq_of_lt (lt_of_lt_of_le h (pow_mono l)))

-- ---- two words, bit by bit

module _ (op : ℕ → ℕ → ℕ) (on : Bool → Bool → Bool)
    (shr : (a b k : ℕ) → op a b / 2 ^ k ≡ op (a / 2 ^ k) (b / 2 ^ k)) (low : (a b k : ℕ) → op a b % 2 ^ k ≡ op (a % 2 ^ k) (b % 2 ^ k))
    (zeros : eqb (op 0 0) 1 ≡ on false false) (right : eqb (op 0 1) 1 ≡ on false true)
    (left : eqb (op 1 0) 1 ≡ on true false) (both : eqb (op 1 1) 1 ≡ on true true) where
  digits : (x y : ℕ) → x < 2 → y < 2 → eqb (op x y) 1 ≡ on (eqb x 1) (eqb y 1)
  digits zero zero a b = zeros
  digits zero (suc zero) a b = right
  digits (suc zero) zero a b = left
  digits (suc zero) (suc zero) a b = both
  digits zero (suc (suc y)) a b = let z : ⊥ = omega (arith, b) in absurd z
  digits (suc zero) (suc (suc y)) a b = let z : ⊥ = omega (arith, b) in absurd z
  digits (suc (suc x)) y a b = let z : ⊥ = omega (arith, a) in absurd z

  bit_op : (a b k : ℕ) → bit (op a b) k ≡ on (bit a k) (bit b k)
  unfolding bit
  bit_op a b k =
      ap (λ (x : ℕ). eqb (x % 2) 1) (shr a b k) ∙ ap (λ (x : ℕ). eqb x 1) (low (a / 2 ^ k) (b / 2 ^ k) 1)
      ∙ digits (a / 2 ^ k % 2) (b / 2 ^ k % 2) (mod-lt (a / 2 ^ k) (zero-lt-suc 1)) (mod-lt (b / 2 ^ k) (zero-lt-suc 1))

pub bit-xor : (a b k : ℕ) → bit (bit_xor a b) k ≡ xor (bit a k) (bit b k)
unfolding xor
bit-xor = bit_op bit_xor xor xor_shr xor_mod refl refl refl refl

pub bit-or : (a b k : ℕ) → bit (bit_or a b) k ≡ (bit a k || bit b k)
bit-or = bit_op bit_or ◌||◌ or_shr or_mod refl refl refl refl

pub bit-and : (a b k : ℕ) → bit (bit_and a b) k ≡ (bit a k && bit b k)
bit-and = bit_op bit_and ◌&&◌ and_shr and_mod refl refl refl refl

pub or-fold : (w s k : ℕ) → bit (bit_or w (w / 2 ^ s)) k ≡ (bit w k || bit w (s + k))
or-fold w s k = bit-or w (w / 2 ^ s) k ∙ ap (λ (b : Bool). bit w k || b) (bit_shift w s k)

-- ---- numbers by their bits

half : (d n : ℕ) → n < 2 ^ suc d → n / 2 < 2 ^ d
half d n h = let e : suc d ≡ d + 1 = omega arith in shr_lt d 1 (subst (λ (x : ℕ). n < 2 ^ x) e h)

digit_of : (x : ℕ) → x < 2 → x ≡ one_if (eqb x 1)
digit_of zero h = refl
digit_of (suc zero) h = refl
digit_of (suc (suc x)) h = let z : ⊥ = omega (arith, h) in absurd z

lowest : (n : ℕ) → n % 2 ≡ one_if (bit n 0)
lowest n = digit_of (n % 2) (mod-lt n (zero-lt-suc 1)) ∙ ap one_if (sym (bit-first n))

pub bits_ext : (d a b : ℕ) → a < 2 ^ d → b < 2 ^ d → ((k : ℕ) → k < d → bit a k ≡ bit b k) → a ≡ b
bits_ext zero a b p q h = lt-one p ∙ sym (lt-one q)
bits_ext (suc d) a b p q h =
    let upper = bits_ext d (a / 2) (b / 2) (half d a p) (half d b q) (λ k l. sym (bit-next a k) ∙ h (suc k) (suc-le-suc l) ∙ bit-next b k) in
    let low : a % 2 ≡ b % 2 = lowest a ∙ ap one_if (h 0 (zero-lt-suc d)) ∙ sym (lowest b) in
    sym (div-add-mod' a 2) ∙ ap₂ (λ (x y : ℕ). x * 2 + y) upper low ∙ div-add-mod' b 2

pub ones_count : (d n : ℕ) → n < 2 ^ d → ones n ≡ count (bit n) (up_to d)
unfolding up_to
ones_count zero n h = ap ones (lt-one h) ∙ ones-ones 0
ones_count (suc d) n h =
    ones_step n
    ∙ ap₂ ◌+◌ (lowest n)
    (ones_count d (n / 2) (half d n h)
    ∙ fold_cong ◌+◌ 0 (λ i. one_if (bit (n / 2) i)) (λ i. one_if (bit n (suc i))) (up_to d) (λ i. ap one_if (sym (bit-next n i))))
    ∙ sym (fold-first ◌+◌ 0 d (λ i. one_if (bit n i)))

-- the s lowest digits
pub bit-low : (n s k : ℕ) → k < s → bit (n % 2 ^ s) k ≡ bit n k
bit-low n zero k h = let z : ⊥ = omega (arith, h) in absurd z
bit-low n (suc s) k h = sym (bit-parts n (suc s) k h)
  where
    low_half : (n s : ℕ) → n % 2 ^ suc s / 2 ≡ n / 2 % 2 ^ s
    low_half n s = let e : suc s ≡ s + 1 = omega arith in ap (λ (x : ℕ). n % 2 ^ x / 2) e ∙ field n s 1

    low_first : (n s : ℕ) → n % 2 ^ suc s % 2 ≡ n % 2
    low_first n s = let e : suc s ≡ s + 1 = omega arith in ap (λ (x : ℕ). n % 2 ^ x % 2) e ∙ mod-mod-pow n s 1

    bit-parts : (n s k : ℕ) → k < s → bit n k ≡ bit (n % 2 ^ s) k
    bit-parts n zero k h = let z : ⊥ = omega (arith, h) in absurd z
    bit-parts n (suc s) zero h = bit-first n ∙ ap (λ (x : ℕ). eqb x 1) (sym (low_first n s)) ∙ sym (bit-first (n % 2 ^ suc s))
    bit-parts n (suc s) (suc k) h =
        bit-next n k ∙ bit-parts (n / 2) s k (le_of_suc-le-suc h) ∙ ap (λ (x : ℕ). bit x k) (sym (low_half n s)) ∙ sym (bit-next (n % 2 ^ suc s) k)

-- ---- words that are 0

pub no_bit : (d w : ℕ) → w < 2 ^ d → ((k : ℕ) → k < d → bit w k ≡ false) → w ≡ 0
no_bit d w h f = bits_ext d w 0 h (lt_of_lt_of_le (zero-lt-suc 0) (pow_mono {i = 0} {j = d} zero-le)) (λ k l. f k l ∙ sym (bit-zero k))

pub none_from : (d w s : ℕ) → w < 2 ^ d → eqb (w / 2 ^ s) 0 ≡ not (some (λ k. bit w k && leb s k) (up_to d))
none_from d w s h =
    bool_ext (eqb (w / 2 ^ s) 0) (not (some (λ k. bit w k && leb s k) (up_to d)))
    (λ e. there (some (λ k. bit w k && leb s k) (up_to d)) refl (eqb-true (w / 2 ^ s) 0 e)) back
  where
    there : (b : Bool) → some (λ k. bit w k && leb s k) (up_to d) ≡ b → w / 2 ^ s ≡ 0 → not b ≡ true
    there false e z = refl
    there true e z =
        let f = some_where d (λ k. bit w k && leb s k) e in
        let l = leb-true s f.0 (and_right (bit w f.0) (leb s f.0) f.2) in
        let i : s + (f.0 - s) ≡ f.0 = omega (arith, l) in
        absurd
        (true≢false
        (sym (and_left (bit w f.0) (leb s f.0) f.2) ∙ ap (bit w) (sym i) ∙ sym (bit_shift w s (f.0 - s))
        ∙ ap (λ (x : ℕ). bit x (f.0 - s)) z ∙ bit-zero (f.0 - s)))

    upper : not (some (λ k. bit w k && leb s k) (up_to d)) ≡ true → (k : ℕ) → k < d → bit (w / 2 ^ s) k ≡ false
    upper e k l = bit_shift w s k ∙ go (bit w (s + k)) refl (dec_lt (s + k) d)
      where
        go : (b : Bool) → bit w (s + k) ≡ b → Dec (s + k < d) → b ≡ false
        go false q m = refl
        go true q (yes m) =
            let found = some_at d (s + k) (λ k. bit w k && leb s k) m (and_both (bit w (s + k)) (leb s (s + k)) q (le-leb s (s + k) (omega arith))) in
            absurd (false≢true (ap not (sym found) ∙ e))
        go true q (no m) = sym q ∙ bit_high d w (s + k) h (omega arith)

    back : not (some (λ k. bit w k && leb s k) (up_to d)) ≡ true → eqb (w / 2 ^ s) 0 ≡ true
    back e = eq-eqb (w / 2 ^ s) 0 (no_bit d (w / 2 ^ s) (lt_of_le_of_lt (shr_le w s) h) (upper e))

pub zero_test : (d w : ℕ) → w < 2 ^ d → eqb w 0 ≡ not (some (bit w) (up_to d))
zero_test d w h =
    ap (λ (x : ℕ). eqb x 0) (sym (div-one w)) ∙ none_from d w 0 h
    ∙ ap not
    (fold_cong ◌||◌ false (λ k. bit w k && leb 0 k) (bit w) (up_to d)
    (λ k. ap (λ (b : Bool). bit w k && b) (le-leb 0 k zero-le) ∙ and-true (bit w k)))

-- ---- single bits, and sums of three words

pub bit_power : (k i : ℕ) → bit (2 ^ k) i ≡ eqb i k
unfolding bit
bit_power zero zero = refl
bit_power zero (suc i) = bit-next 1 i ∙ bit-zero i ∙ sym (eqb-suc-zero i)
bit_power (suc k) zero =
    let even : 2 ^ suc k % 2 ≡ 0 = omega arith in
    bit-first (2 ^ suc k) ∙ ap (λ (x : ℕ). eqb x 1) even ∙ sym (eqb-zero-suc k)
bit_power (suc k) (suc i) =
    let half : 2 ^ suc k / 2 ≡ 2 ^ k = omega arith in
    bit-next (2 ^ suc k) i ∙ ap (λ (x : ℕ). bit x i) half ∙ bit_power k i ∙ sym (eqb-suc-suc i k)

below_power : (n : ℕ) → n < 2 ^ n
below_power zero = zero-lt-suc 0
below_power (suc n) = let double = pow-suc 2 n in let h = below_power n in omega (arith, double, h)

pub words_assoc : (a b c : ℕ) → bit_xor (bit_xor a b) c ≡ bit_xor a (bit_xor b c)
words_assoc a b c =
    let d : ℕ = a + b + c in
    let fits : (n : ℕ) → n ≤ d → n < 2 ^ d = λ n h. lt_of_lt_of_le (below_power n) (pow_mono h) in
    let x = fits a (omega arith) in
    let y = fits b (omega arith) in
    let z = fits c (omega arith) in
    bits_ext d (bit_xor (bit_xor a b) c) (bit_xor a (bit_xor b c)) (xor_lt d (bit_xor a b) c (xor_lt d a b x y) z)
    (xor_lt d a (bit_xor b c) x (xor_lt d b c y z))
    (λ k h. bit-xor (bit_xor a b) c k ∙ ap (λ (v : Bool). xor v (bit c k)) (bit-xor a b k) ∙ xor_assoc (bit a k) (bit b k) (bit c k)
    ∙ sym (bit-xor a (bit_xor b c) k ∙ ap (xor (bit a k)) (bit-xor b c k)))

-- ---- a bool as a number

pub byte-once : (b : Bool) → (bool_byte b ≡ one_if b) × (bool_byte b ≤ 1)
byte-once true = (refl, suc-le-suc zero-le)
byte-once false = (refl, zero-le)
