-- Induction over numbers, and whether two are alike.
--     from_on     what holds at a number, and goes on from each number to the next as long as that is not past an end, holds up to the end
--     rises       numbers that do not fall from one to the next do not fall
--     alike       two numbers are the same or not
--     below_next  a number below the next one is that one or below it
use Prim.Native.Nat.{ℕ, zero, suc, ◌+◌, ◌≤◌, ◌<◌}
use native.Mathlib.Nat.{le_refl, eq-or-lt_of_le, le_of_suc-le-suc}
use native.Mathlib.Decide.{dec_lt}
use native.Mathlib.Numerals.{add-one}
use native.Mathlib.Omega.{arith}
use mathlib.Core.Path.{◌≡◌, ap, subst}
use mathlib.Core.Logic.{◌⊎◌, inl, inr}

pub from_on : (P : ℕ → Type 0) (from end : ℕ) → P from → ((i : ℕ) → from ≤ i → i < end → P i → P (i + 1)) → (i : ℕ) → from ≤ i → i ≤ end → P i
from_on P from end first next zero low h = let e : from ≡ 0 = omega arith in subst P e first
from_on P from end first next (suc i) low h = go (eq-or-lt_of_le low) (from_on P from end first next i)
  where
    go : (from ≡ suc i) ⊎ (from < suc i) → (from ≤ i → i ≤ end → P i) → P (suc i)
    go (inl e) before = subst P e first
    go (inr p) before = let at_least_lem : from ≤ i = le_of_suc-le-suc p in subst P (add-one i) (next i at_least_lem (omega arith) (before at_least_lem (omega arith)))

pub rises : (f : ℕ → ℕ) → ((i : ℕ) → f i ≤ f (suc i)) → (a b : ℕ) → a ≤ b → f a ≤ f b
rises f up a b h = from_on (λ (i : ℕ). f a ≤ f i) a b (le_refl (f a)) (λ i low less before. omega (arith, before, up i, ap f (add-one i))) b h (le_refl b)

pub alike : (m n : ℕ) → Dec (m ≡ n)
alike m n = go (dec_lt m n) (dec_lt n m)
  where
    go : Dec (m < n) → Dec (n < m) → Dec (m ≡ n)
    go (yes p) d = no (λ e. omega (arith, p, e))
    go (no p) (yes q) = no (λ e. omega (arith, q, e))
    go (no p) (no q) = yes (omega (arith, p, q))

pub below_next : (j i : ℕ) → j < i + 1 → (j ≡ i) ⊎ (j < i)
below_next j i h = let l : j ≤ i = omega (arith, h) in eq-or-lt_of_le l
