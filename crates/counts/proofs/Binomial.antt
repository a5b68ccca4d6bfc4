-- Pascal's rule as equations, and what follows from it.
--     binom-zero, binom-none, binom-suc     the rule
--     binom_wider                           more wires have no fewer sets
--     binom-above                           a size above the wires has count 0
--     binom_bound                           a count is at most a power
--     largest, counts_fit                   the largest number of 64 bits, which no count reaches
use Prim.Native.Nat.{ℕ, zero, suc, ◌+◌, ◌*◌, ◌^◌, ◌≤◌, ◌<◌}
use native.Mathlib.Nat.{le_of_suc-le-suc, not-suc-le-zero, mul-le-mul_right, pow-zero, pow-suc}
use native.Mathlib.Omega.{arith}
use mathlib.Core.Path.{◌≡◌, refl}
use Rattle.limits.specs.Limits.{max_wires, max_size}
use Rattle.basics.proofs.Numbers.{rises}
use Rattle.counts.specs.Counts.{binom}

pub binom-zero : (n : ℕ) → binom n 0 ≡ 1
unfolding binom
binom-zero zero = refl
binom-zero (suc n) = refl

pub binom-none : (k : ℕ) → binom 0 (suc k) ≡ 0
unfolding binom
binom-none k = refl

pub binom-suc : (n k : ℕ) → binom (suc n) (suc k) ≡ binom n (suc k) + binom n k
unfolding binom
binom-suc n k = refl

pub binom_wider : (m n k : ℕ) → m ≤ n → binom m k ≤ binom n k
binom_wider m n k h = rises (λ (i : ℕ). binom i k) (up k) m n h
  where
    up : (k i : ℕ) → binom i k ≤ binom (suc i) k
    up zero i = omega (arith, binom-zero i, binom-zero (suc i))
    up (suc k) i = omega (arith, binom-suc i k)

pub binom-above : (n k : ℕ) → n < k → binom n k ≡ 0
binom-above n zero h = absurd (not-suc-le-zero h)
binom-above zero (suc k) h = binom-none k
binom-above (suc n) (suc k) h = omega (arith, binom-suc n k, binom-above n (suc k) (omega arith), binom-above n k (le_of_suc-le-suc h))

-- each of the k wires is one of `most`
pub binom_bound : (most n k : ℕ) → n ≤ most → binom n k ≤ most ^ k
binom_bound most n zero h = omega (arith, binom-zero n, pow-zero most)
binom_bound most n (suc k) h = up (part (λ n h. binom_bound most n k h) n h)
  where
    part : ((n : ℕ) → n ≤ most → binom n k ≤ most ^ k) → (n : ℕ) → n ≤ most → binom n (suc k) ≤ n * most ^ k
    part ih zero h = omega (arith, binom-none k)
    part ih (suc n) h = omega (arith, binom-suc n k, part ih n (omega arith), ih n (omega arith))

    up : binom n (suc k) ≤ n * most ^ k → binom n (suc k) ≤ most ^ suc k
    up b = omega (arith, b, mul-le-mul_right (most ^ k) h, pow-suc most k)

power_up : (a k m : ℕ) → 0 < a → k ≤ m → a ^ k ≤ a ^ m
power_up a k m h p = rises (λ (i : ℕ). a ^ i) (λ i. omega (arith, mul-le-mul_right (a ^ i) h, pow-suc a i)) k m p

-- the largest number of 64 bits
abbrev pub largest : ℕ
largest = 18446744073709551615

-- every count is below it
pub counts_fit : (n k : ℕ) → n ≤ max_wires → k ≤ max_size → binom n k < largest
counts_fit n k h p =
    let all : max_wires ^ max_size < largest = omega arith in
    let low : 0 < max_wires = omega arith in
    omega (arith, all, binom_bound max_wires n k h, power_up max_wires k max_size low p)
