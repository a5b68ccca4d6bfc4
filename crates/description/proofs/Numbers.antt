-- The numbers of masks: lists of them, and the word that has their bits.
--     member-every                  what passes for every number of a list passes for a member
--     larger-max                    the larger of two numbers, in the words of arithmetic
--     word_with, count_with_lem, fresh_in_lem  a word, a count, to which the numbers of a list are added one after another; whether each is new to the word
--     word_bits                     the bits of such a word
--     fresh-once                    to the empty word all numbers are new where none is twice in the list
--     count_with                    the count then is the list's mask count
use Prim.Native.Nat.{ℕ, ◌+◌, ◌^◌, max}
use native.Mathlib.Omega.{arith}
use mathlib.Core.Path.{◌≡◌, refl, sym, ◌∙◌, ap, ap₂}
use mathlib.Core.Logic.{◌⊎◌, inl, inr}
use mathlib.Core.Bool.{Bool, true, false, cond, not, ◌&&◌, ◌||◌, xor, false≢true, and-false, or-false, or_assoc, and_assoc}
use mathlib.Core.List.{List, [], ◌∷◌}
use borrow.Author.Tests.{ltb-true, ltb-false, eqb-true, eq-eqb, not-true}
use lib.Bits.{bit_xor}
use lib.Dec.{eqb, ltb}
use Rattle.basics.specs.Folds.{every}
use Rattle.basics.proofs.Folds.{fold_cong, fold_unit}
use Rattle.basics.proofs.Tests.{and_left, and_right, or_cases, bool_ext, xor-false}
use Rattle.records.specs.Words.{bit}
use Rattle.records.proofs.Words.{bit-zero, bit-xor, bit_power}
use Rattle.description.specs.Header.{larger}
use Rattle.description.specs.Grammar.{member, once, mask_count}

-- a word with one bit more
bit_more : (w k i : ℕ) → bit w k ≡ false → bit (bit_xor w (2 ^ k)) i ≡ (bit w i || eqb i k)
unfolding xor
bit_more w k i e = bit-xor w (2 ^ k) i ∙ ap (xor (bit w i)) (bit_power k i) ∙ go (eqb i k) refl
  where
    go : (b : Bool) → eqb i k ≡ b → xor (bit w i) b ≡ (bit w i || b)
    go true q = let new : bit w i ≡ false = ap (bit w) (eqb-true i k q) ∙ e in rw new refl
    go false q = xor-false (bit w i) ∙ sym (or-false (bit w i))

pub member-every : (f : ℕ → Bool) (k : ℕ) (names : List ℕ) → every f names ≡ true → member k names ≡ true → f k ≡ true
member-every f k [] e m = absurd (false≢true m)
member-every f k (n ∷ names) e m =
    go (or_cases (eqb k n) (member k names) m) (member-every f k names (and_right (f n) (every f names) e))
  where
    go : (eqb k n ≡ true) ⊎ (member k names ≡ true) → (member k names ≡ true → f k ≡ true) → f k ≡ true
    go (inl p) rest = ap f (eqb-true k n p) ∙ and_left (f n) (every f names) e
    go (inr p) rest = rest p

-- ---- numbers added one after another

abbrev pub word_with : ℕ → List ℕ → ℕ
word_with w [] = w
word_with w (k ∷ ks) = word_with (bit_xor w (2 ^ k)) ks

abbrev pub count_with_lem : ℕ → List ℕ → ℕ
count_with_lem n [] = n
count_with_lem n (k ∷ ks) = count_with_lem (larger n (k + 1)) ks

abbrev pub fresh_in_lem : ℕ → List ℕ → Bool
fresh_in_lem w [] = true
fresh_in_lem w (k ∷ ks) = not (bit w k) && fresh_in_lem (bit_xor w (2 ^ k)) ks

pub word_bits : (ks : List ℕ) (w i : ℕ) → fresh_in_lem w ks ≡ true → bit (word_with w ks) i ≡ (bit w i || member i ks)
word_bits [] w i e = sym (or-false (bit w i))
word_bits (k ∷ ks) w i e =
    word_bits ks (bit_xor w (2 ^ k)) i (and_right (not (bit w k)) (fresh_in_lem (bit_xor w (2 ^ k)) ks) e)
    ∙ ap (λ (b : Bool). b || member i ks) (bit_more w k i (not-true (bit w k) (and_left (not (bit w k)) (fresh_in_lem (bit_xor w (2 ^ k)) ks) e)))
    ∙ or_assoc (bit w i) (eqb i k) (member i ks)

-- numbers new to a word and other than k
fresh-other : (q : ℕ → Bool) (k : ℕ) (ks : List ℕ) → every (λ i. not (q i || eqb i k)) ks ≡ (every (λ i. not (q i)) ks && not (member k ks))
fresh-other q k [] = refl
fresh-other q k (n ∷ ks) =
    ap₂ (λ (a b : Bool). not (q n || a) && b) (eqb_comm n k) (fresh-other q k ks)
    ∙ apart (q n) (eqb k n) (every (λ i. not (q i)) ks) (member k ks)
  where
    eqb_comm : (a b : ℕ) → eqb a b ≡ eqb b a
    eqb_comm a b = bool_ext (eqb a b) (eqb b a) (λ e. eq-eqb b a (sym (eqb-true a b e))) (λ e. eq-eqb a b (sym (eqb-true b a e)))

    apart : (a b x y : Bool) → (not (a || b) && (x && not y)) ≡ ((not a && x) && not (b || y))
    apart true b x y = refl
    apart false true x y = sym (and-false x)
    apart false false x y = refl

fresh_in : (ks : List ℕ) (w : ℕ) → fresh_in_lem w ks ≡ (every (λ i. not (bit w i)) ks && once ks)
fresh_in [] w = refl
fresh_in (k ∷ ks) w = go (bit w k) refl (fresh_in ks (bit_xor w (2 ^ k)))
  where
    go : (b : Bool) → bit w k ≡ b → fresh_in_lem (bit_xor w (2 ^ k)) ks ≡ (every (λ i. not (bit (bit_xor w (2 ^ k)) i)) ks && once ks)
        → (not b && fresh_in_lem (bit_xor w (2 ^ k)) ks) ≡ ((not b && every (λ i. not (bit w i)) ks) && (not (member k ks) && once ks))
    go true e rest = refl
    go false e rest =
        rest
        ∙ ap (λ (b : Bool). b && once ks)
        (fold_cong ◌&&◌ true (λ i. not (bit (bit_xor w (2 ^ k)) i)) (λ i. not (bit w i || eqb i k)) ks (λ i. ap not (bit_more w k i e))
        ∙ fresh-other (bit w) k ks)
        ∙ and_assoc (every (λ i. not (bit w i)) ks) (not (member k ks)) (once ks)

pub fresh-once : (ks : List ℕ) → fresh_in_lem 0 ks ≡ once ks
fresh-once ks =
    fresh_in ks 0
    ∙ ap (λ (b : Bool). b && once ks) (fold_unit ◌&&◌ true (λ b. refl) (λ i. not (bit 0 i)) ks (λ i. ap not (bit-zero i)))

pub larger-max : (m n : ℕ) → larger m n ≡ max m n
larger-max m n = go (ltb m n) refl
  where
    go : (b : Bool) → ltb m n ≡ b → cond b n m ≡ max m n
    go true e = omega (arith, ltb-true m n e)
    go false e = omega (arith, ltb-false m n e)

count_with_more : (ks : List ℕ) (n : ℕ) → count_with_lem n ks ≡ max n (mask_count ks)
count_with_more [] n = omega arith
count_with_more (k ∷ ks) n =
    let more : max (max n (k + 1)) (mask_count ks) ≡ max n (max (k + 1) (mask_count ks)) = omega arith in
    count_with_more ks (larger n (k + 1)) ∙ ap (λ (x : ℕ). max x (mask_count ks)) (larger-max n (k + 1)) ∙ more
    ∙ ap (λ (x : ℕ). max n x) (sym (larger-max (k + 1) (mask_count ks)))

pub count_with : (ks : List ℕ) → count_with_lem 0 ks ≡ mask_count ks
count_with ks = let most : max 0 (mask_count ks) ≡ mask_count ks = omega arith in count_with_more ks 0 ∙ most
