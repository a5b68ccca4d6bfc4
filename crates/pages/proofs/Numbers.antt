-- Numbers in base ten.
--     digits-enough                  digits do not change where more are allowed
--     decimal-low, decimal_more      a number below ten is its digit; any other is a tenth of it, then its last digit
--     digits_by, decimal_by          what holds of one digit, and then with a last digit more, holds of every number's digits
--     decimal-below, decimal-few     a number below a power of ten has no more digits; one of 64 bits has at most twenty
--     worth, worth_last, decimal_worth     what the digits are worth is the number
--     is_digit, decimal-digits        they are digits
--     decimal_leads                  the first is no 0, but for the number 0
use Prim.Native.Nat.{ℕ, zero, suc, ◌+◌, ◌*◌, ◌-◌, ◌/◌, ◌%◌, ◌^◌, ◌≤◌, ◌<◌}
use native.Mathlib.Nat.{le_refl, not-suc-le-zero, pow-suc}
use native.Mathlib.Omega.{arith}
use mathlib.Core.Path.{◌≡◌, refl, ◌∙◌, ap, ap₂}
use mathlib.Core.Bool.{Bool, true, false, cond, ◌&&◌, and_assoc}
use mathlib.Core.List.{List, [], ◌∷◌, ◌++◌}
use lib.Dec.{ltb, leb}
use lib.ListN.{length, length-append, get_or}
use borrow.Author.Tests.{lt-ltb, le-ltb, le-leb, ltb-true, ltb-false}
use Rattle.basics.specs.Folds.{every}
use Rattle.basics.proofs.Folds.{fold-append}
use Rattle.pages.specs.Decimal.{digit_byte, digits, decimal}

digits-enough : (j k n : ℕ) → n < j → n < k → digits j n ≡ digits k n
digits-enough zero k n p q = absurd (not-suc-le-zero p)
digits-enough (suc j) zero n p q = absurd (not-suc-le-zero q)
digits-enough (suc j) (suc k) n p q = go (ltb n 10) refl (digits-enough j k (n / 10))
  where
    go : (b : Bool) → ltb n 10 ≡ b → (n / 10 < j → n / 10 < k → digits j (n / 10) ≡ digits k (n / 10))
        → cond b (digit_byte n ∷ []) (digits j (n / 10) ++ (digit_byte (n % 10) ∷ []))
        ≡ cond b (digit_byte n ∷ []) (digits k (n / 10) ++ (digit_byte (n % 10) ∷ []))
    go true e ih = refl
    go false e ih =
        let high : 10 ≤ n = ltb-false n 10 e in
        ap (λ (l : List ℕ). l ++ (digit_byte (n % 10) ∷ [])) (ih (omega (arith, high, p)) (omega (arith, high, q)))

pub decimal-low : (n : ℕ) → n < 10 → decimal n ≡ digit_byte n ∷ []
unfolding decimal
decimal-low n h = ap (λ (b : Bool). cond b (digit_byte n ∷ []) (digits n (n / 10) ++ (digit_byte (n % 10) ∷ []))) (lt-ltb n 10 h)

pub decimal_more : (n : ℕ) → 10 ≤ n → decimal n ≡ decimal (n / 10) ++ (digit_byte (n % 10) ∷ [])
unfolding decimal
decimal_more n h =
    ap (λ (b : Bool). cond b (digit_byte n ∷ []) (digits n (n / 10) ++ (digit_byte (n % 10) ∷ []))) (le-ltb n 10 h)
    ∙ ap (λ (l : List ℕ). l ++ (digit_byte (n % 10) ∷ [])) (digits-enough n (suc (n / 10)) (n / 10) (omega (arith, h)) (omega arith))

-- a number's digits are those of a tenth of it and a last one, and a number below ten has but that
module _ (P : ℕ → List ℕ → Type 0) (low : (n : ℕ) → n < 10 → P n (digit_byte n ∷ []))
    (more : (n : ℕ) (l : List ℕ) → 10 ≤ n → P (n / 10) l → P n (l ++ (digit_byte (n % 10) ∷ []))) where
  digits_by : (most n : ℕ) → n < most → P n (digits most n)
  digits_by zero n h = absurd (not-suc-le-zero h)
  digits_by (suc most) n h = go (ltb n 10) refl (digits_by most (n / 10))
    where
      go : (b : Bool) → ltb n 10 ≡ b → (n / 10 < most → P (n / 10) (digits most (n / 10)))
          → P n (cond b (digit_byte n ∷ []) (digits most (n / 10) ++ (digit_byte (n % 10) ∷ [])))
      go true e ih = low n (ltb-true n 10 e)
      go false e ih = let high : 10 ≤ n = ltb-false n 10 e in more n (digits most (n / 10)) high (ih (omega (arith, high, h)))

  decimal_by : (n : ℕ) → P n (decimal n)
  unfolding decimal
  decimal_by n = digits_by (suc n) n (le_refl (suc n))

pub decimal-below : (n k : ℕ) → n < 10 ^ suc k → length (decimal n) ≤ suc k
decimal-below = decimal_by (λ n l. (k : ℕ) → n < 10 ^ suc k → length l ≤ suc k) (λ n h k p. omega arith) last
  where
    last : (n : ℕ) (l : List ℕ) → 10 ≤ n → ((k : ℕ) → n / 10 < 10 ^ suc k → length l ≤ suc k) → (k : ℕ) → n < 10 ^ suc k
        → length (l ++ (digit_byte (n % 10) ∷ [])) ≤ suc k
    last n l high ih zero p = let low : n < 10 = p in omega (arith, high, low)
    last n l high ih (suc k) p =
        let ten = pow-suc 10 (suc k) in omega (arith, length-append l (digit_byte (n % 10) ∷ []), ih k (omega (arith, p, ten)))

pub decimal-few : (n : ℕ) → n < 2 ^ 64 → length (decimal n) ≤ 20
decimal-few n h = let high : 2 ^ 64 ≤ 10 ^ 20 = omega arith in decimal-below n 19 (omega (arith, h))

-- ---- what the digits are

abbrev pub worth : ℕ → List ℕ → ℕ
worth before [] = before
worth before (c ∷ l) = worth (10 * before + (c - 48)) l

worth_last : (before : ℕ) (l : List ℕ) (c : ℕ) → worth before (l ++ (c ∷ [])) ≡ 10 * worth before l + (c - 48)
worth_last before [] c = refl
worth_last before (d ∷ l) c = worth_last (10 * before + (d - 48)) l c

pub decimal_worth : (n : ℕ) → worth 0 (decimal n) ≡ n
decimal_worth =
    decimal_by (λ n l. worth 0 l ≡ n) (λ n h. omega arith)
    (λ n l h ih. worth_last 0 l (digit_byte (n % 10)) ∙ omega (arith, ih))

abbrev pub is_digit : ℕ → Bool
is_digit c = leb 48 c && leb c 57

pub decimal-digits : (n : ℕ) → every is_digit (decimal n) ≡ true
decimal-digits =
    decimal_by (λ n l. every is_digit l ≡ true) one
    (λ n l h ih. fold-append ◌&&◌ true (λ b. refl) and_assoc is_digit l (digit_byte (n % 10) ∷ []) ∙ ap₂ ◌&&◌ ih (one (n % 10) (omega arith)))
  where
    one : (d : ℕ) → d < 10 → every is_digit (digit_byte d ∷ []) ≡ true
    one d h = simp (le-leb 48 (digit_byte d) (omega arith), le-leb (digit_byte d) 57 (omega (arith, h)))

pub decimal_leads : (n : ℕ) → 0 < n → 49 ≤ get_or (decimal n) 0 0
decimal_leads =
    decimal_by (λ n l. 0 < n → 49 ≤ get_or l 0 0) (λ n h p. omega (arith, p))
    (λ n l h ih p. first l (digit_byte (n % 10)) (ih (omega (arith, h))))
  where
    first : (l : List ℕ) (c : ℕ) → 49 ≤ get_or l 0 0 → 49 ≤ get_or (l ++ (c ∷ [])) 0 0
    first [] c h = absurd (not-suc-le-zero h)
    first (d ∷ l) c h = h
