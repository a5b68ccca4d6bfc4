-- A number as a word of digits: digit by digit, and what it is worth.
--     number_more, number-all       one digit more of a word, and all of them
--     all-digits                    the library's test of every byte
--     number-empty, number-one, number_led, number_digits     the tests on its length and first byte
--     digit-large, digit_more       one digit more of a number
--     number_small, number-large    the number of a word is what its digits are worth, where that is not large, and else large
--     worth_below, number_exact     so many digits are worth less than that power of ten; so a number of up to eighteen digits is exact
use Prim.Native.Nat.{ℕ, suc, ◌+◌, ◌*◌, ◌-◌, ◌^◌, ◌≤◌, ◌<◌}
use native.Mathlib.Nat.{mul-le-mul_right, pow-suc, pow-le-pow_right}
use native.Mathlib.Omega.{arith}
use mathlib.Core.Path.{◌≡◌, refl, sym, ◌∙◌, ap}
use mathlib.Core.Bool.{Bool, true, false, cond, not, ◌&&◌}
use mathlib.Core.List.{List, [], ◌∷◌, ◌++◌}
use borrow.Author.Tests.{leb-true, leb-false, le-leb, lt-leb, eq-eqb, ne_eqb}
use lib.Dec.{eqb, leb}
use lib.ListN.{length, take, get_or}
use lib.Seq.{take-suc, take_all}
use Rattle.std.specs.List.{list_all}
use Rattle.basics.specs.Folds.{every}
use Rattle.basics.proofs.Tests.{and_left, and_right}
use Rattle.description.specs.Bytes.{digit}
use Rattle.pages.proofs.Numbers.{worth}
use Rattle.number_words.specs.Digits.{is_number, large, with_digit, number_from, number_of}

-- ---- byte by byte

from_last : (n : ℕ) (l : List ℕ) (c : ℕ) → number_from n (l ++ (c ∷ [])) ≡ with_digit (number_from n l) c
from_last n [] c = refl
from_last n (d ∷ l) c = from_last (with_digit n d) l c

module _ (word : List ℕ) (i : ℕ) where
  next : i + 1 ≡ suc i
  next = omega arith

  pub number_more : (n m : ℕ) → i < length word → n ≡ number_of (take i word) → m ≡ with_digit n (get_or word i 0) → m ≡ number_of (take (i + 1) word)
  number_more n m h e f =
      f ∙ ap (λ (k : ℕ). with_digit k (get_or word i 0)) e ∙ sym (from_last 0 (take i word) (get_or word i 0))
      ∙ ap number_of (sym (take-suc word i 0 h)) ∙ ap (λ (k : ℕ). number_of (take k word)) (sym next)

  pub number-all : (n : ℕ) → length word ≤ i → n ≡ number_of (take i word) → n ≡ number_of word
  number-all n h e = e ∙ ap number_of (take_all i word h)

-- the library's test of every byte
pub all-digits : (word : List ℕ) → list_all digit word ≡ every digit word
all-digits [] = refl
all-digits (c ∷ l) = ap (λ (b : Bool). digit c && b) (all-digits l)

-- ---- what it is worth

worth_rises : (n : ℕ) (l : List ℕ) → n ≤ worth n l
worth_rises n [] = omega arith
worth_rises n (c ∷ l) = let more = worth_rises (10 * n + (c - 48)) l in omega (arith, more)

-- a large number stays so
large_stays : (n : ℕ) (l : List ℕ) → large ≤ n → large ≤ number_from n l
large_stays n [] h = h
large_stays n (c ∷ l) h =
    let same : with_digit n c ≡ n = ap (λ (b : Bool). cond b n (10 * n + (c - 48))) (le-leb large n h) in
    large_stays (with_digit n c) l (omega (arith, same, h))

small-next : (n c : ℕ) → n < large → with_digit n c ≡ 10 * n + (c - 48)
small-next n c h = ap (λ (b : Bool). cond b n (10 * n + (c - 48))) (lt-leb large n h)

from-small : (n : ℕ) (l : List ℕ) → worth n l < large → number_from n l ≡ worth n l
from-small n [] h = refl
from-small n (c ∷ l) h =
    let first = worth_rises (10 * n + (c - 48)) l in
    let now = small-next n c (omega (arith, first, h)) in
    ap (λ (k : ℕ). number_from k l) now ∙ from-small (10 * n + (c - 48)) l h

from-large : (n : ℕ) (l : List ℕ) → large ≤ worth n l → large ≤ number_from n l
from-large n [] h = h
from-large n (c ∷ l) h = go (leb large n) refl (from-large (10 * n + (c - 48)) l h)
  where
    go : (b : Bool) → leb large n ≡ b → large ≤ number_from (10 * n + (c - 48)) l → large ≤ number_from n (c ∷ l)
    go true e rest = large_stays n (c ∷ l) (leb-true large n e)
    go false e rest =
        let now = ap (λ (k : ℕ). number_from k l) (small-next n c (leb-false large n e)) in omega (arith, now, rest)

pub number_small : (l : List ℕ) → worth 0 l < large → number_of l ≡ worth 0 l
number_small = from-small 0

pub number-large : (l : List ℕ) → large ≤ worth 0 l → large ≤ number_of l
number-large = from-large 0

-- the digits that follow multiply what came before by so many tens, and add less than one of these
worth_below : (n : ℕ) (l : List ℕ) → every digit l ≡ true → worth n l < (n + 1) * 10 ^ length l
worth_below n [] e = omega arith
worth_below n (c ∷ l) e =
    let low = leb-true c 57 (and_right (leb 48 c) (leb c 57) (and_left (digit c) (every digit l) e)) in
    step (c - 48) (10 ^ length l) (omega (arith, low)) (worth_below (10 * n + (c - 48)) l (and_right (digit c) (every digit l) e)) (pow-suc 10 (length l))
  where
    step : {w q : ℕ} (d p : ℕ) → d < 10 → w < (10 * n + d + 1) * p → q ≡ p * 10 → w < (n + 1) * q
    step {w} {q} d p h less e =
        let room : 10 * n + d + 1 ≤ 10 * n + 10 = omega (arith, h) in
        omega (arith, less, mul-le-mul_right p room, ap (λ (k : ℕ). (n + 1) * k) e)

pub number_exact : (l : List ℕ) → every digit l ≡ true → length l ≤ 18 → number_of l ≡ worth 0 l
number_exact l e h =
    let below = worth_below 0 l e in
    let high : 10 ^ length l ≤ 10 ^ 18 = pow-le-pow_right (omega arith) h in
    number_small l (omega (arith, below, high))

-- ---- the tests on its first byte and its length

pub number-empty : (word : List ℕ) → length word ≡ 0 → is_number word ≡ false
number-empty [] e = refl
number-empty (c ∷ l) e = absurd (omega (arith, e))

pub number-one : (word : List ℕ) → length word ≡ 1 → is_number word ≡ digit (get_or word 0 0)
number-one [] e = absurd (omega (arith, e))
number-one (c ∷ []) e = refl
number-one (c ∷ d ∷ l) e = absurd (omega (arith, e))

module _ (word : List ℕ) (some : length word ≡ 0 → ⊥) (more : length word ≡ 1 → ⊥) where
  long_number : is_number word ≡ (not (eqb (get_or word 0 0) 48) && every digit word)
  long_number = go word some more
    where
      go : (word : List ℕ) → (length word ≡ 0 → ⊥) → (length word ≡ 1 → ⊥) → is_number word ≡ (not (eqb (get_or word 0 0) 48) && every digit word)
      go [] some more = absurd (some refl)
      go (c ∷ []) some more = absurd (more refl)
      go (c ∷ d ∷ l) some more = refl

  pub number_led : get_or word 0 0 ≡ 48 → is_number word ≡ false
  number_led e = long_number ∙ ap (λ (b : Bool). not b && every digit word) (eq-eqb (get_or word 0 0) 48 e)

  pub number_digits : (get_or word 0 0 ≡ 48 → ⊥) → is_number word ≡ every digit word
  number_digits n = long_number ∙ ap (λ (b : Bool). not b && every digit word) (ne_eqb (get_or word 0 0) 48 n)

-- ---- one digit more

pub digit-large : (n c : ℕ) → large ≤ n → n ≡ with_digit n c
digit-large n c h = sym (ap (λ (b : Bool). cond b n (10 * n + (c - 48))) (le-leb large n h))

pub digit_more : (n c : ℕ) → n < large → 10 * n + (c - 48) ≡ with_digit n c
digit_more n c h = sym (small-next n c h)
