-- All sets together.
--     total-whole, total-most     of numbers whose sum has 64 bits the total is the sum; of all others it is the largest number of 64 bits
--     min_capped     the lesser of a number and the largest of 64 bits
--     total_more     one number more
--     total_exact    of what the entry tells, the total is the sum itself: it has 64 bits
use Prim.Native.Nat.{ℕ, zero, suc, min, ◌+◌, ◌-◌, ◌*◌, ◌^◌, ◌≤◌, ◌<◌}
use native.Mathlib.Nat.{add_assoc, add-zero, add-suc, zero-add, mul-le-mul, le_refl}
use native.Mathlib.Decide.{dec_lt}
use native.Mathlib.Omega.{arith}
use mathlib.Core.Path.{◌≡◌, refl, sym, ◌∙◌, ap, subst}
use mathlib.Core.Bool.{Bool, true, false, cond}
use mathlib.Core.List.{List, [], ◌∷◌}
use borrow.Author.Tests.{ltb-true, lt-ltb, le-ltb}
use lib.Dec.{ltb}
use lib.ListN.{length, get_or, take, replicate}
use lib.Seq.{take-suc}
use Rattle.limits.specs.Limits.{max_order, max_wires}
use Rattle.basics.specs.Folds.{fold}
use Rattle.basics.proofs.Folds.{fold-append}
use Rattle.counts.specs.Counts.{binom}
use Rattle.sets_by_size.specs.Counted.{set_counts, counted, most, capped, total_of}

pub capped-low : (n : ℕ) → n ≤ most → capped n ≡ n
capped-low n h = ap (λ (b : Bool). cond b most n) (le-ltb most n h)

pub capped-high : (n : ℕ) → most < n → capped n ≡ most
capped-high n h = ap (λ (b : Bool). cond b most n) (lt-ltb most n h)

-- the library's way to say it
pub min_capped : (n : ℕ) → min n most ≡ capped n
min_capped n = go (dec_lt most n)
  where
    go : Dec (most < n) → min n most ≡ capped n
    go (yes h) = omega (arith, capped-high n h)
    go (no h) = omega (arith, capped-low n (omega arith))

capped-sum : (a b : ℕ) → capped (capped a + b) ≡ capped (a + b)
capped-sum a b = go (ltb most a) refl
  where
    go : (c : Bool) → ltb most a ≡ c → capped (cond c most a + b) ≡ capped (a + b)
    go true e =
        let h = ltb-true most a e in
        high b ∙ sym (capped-high (a + b) (omega (arith, h)))
      where
        high : (b : ℕ) → capped (most + b) ≡ most
        high zero = refl
        high (suc b) = capped-high (most + suc b) (omega arith)
    go false e = refl

abbrev sum : List ℕ → ℕ
sum = fold ◌+◌ 0 (λ n. n)

pub total-whole : (l : List ℕ) → fold ◌+◌ 0 (λ n. n) l ≤ 2 ^ 64 - 1 → total_of l ≡ fold ◌+◌ 0 (λ n. n) l
total-whole l h = capped-low (sum l) h

pub total-most : (l : List ℕ) → 2 ^ 64 - 1 < fold ◌+◌ 0 (λ n. n) l → total_of l ≡ 2 ^ 64 - 1
total-most l h = capped-high (sum l) h

pub total_more : (l : List ℕ) (i : ℕ) → i < length l → capped (total_of (take i l) + get_or l i 0) ≡ total_of (take (i + 1) l)
total_more l i h =
    let more : suc i ≡ i + 1 = omega arith in
    let last : sum (get_or l i 0 ∷ []) ≡ get_or l i 0 = omega arith in
    capped-sum (sum (take i l)) (get_or l i 0)
    ∙ ap capped (sym (ap sum (take-suc l i 0 h) ∙ fold-append ◌+◌ 0 zero-add add_assoc (λ n. n) (take i l) (get_or l i 0 ∷ []) ∙ ap (λ (n : ℕ). sum (take i l) + n) last))
    ∙ ap (λ (n : ℕ). total_of (take n l)) more

-- ---- what the entry tells has 64 bits

binom_more : (n k : ℕ) → binom n k ≤ binom (suc n) k
unfolding binom
binom_more n zero = omega arith
binom_more n (suc k) = omega arith

-- the next size has at most so many times as many sets as there are wires
binom_times : (n k : ℕ) → binom n (suc k) ≤ n * binom n k
unfolding binom
binom_times zero k = omega arith
binom_times (suc n) k =
    let more : binom n k ≤ binom (suc n) k = binom_more n k in
    let times : suc n * binom n k ≤ suc n * binom (suc n) k = mul-le-mul (le_refl (suc n)) more in
    omega (arith, binom_times n k, times)

-- the wires' highest number, so many times multiplied by itself
abbrev bound : ℕ → ℕ
bound zero = 1
bound (suc k) = max_wires * bound k

binom_bound : (n k : ℕ) → n ≤ max_wires → binom n k ≤ bound k
unfolding binom
binom_bound n zero h = omega arith
binom_bound n (suc k) h =
    let times : n * binom n k ≤ max_wires * bound k = mul-le-mul h (binom_bound n k h) in
    omega (arith, binom_times n k, times)

sum_bound : (n k : ℕ) → n ≤ max_wires → sum (set_counts n k) < 2 * bound k
sum_bound n zero h = omega arith
sum_bound n (suc k) h =
    let last : sum (binom n (suc k) ∷ []) ≡ binom n (suc k) = omega arith in
    omega (arith, fold-append ◌+◌ 0 zero-add add_assoc (λ n. n) (set_counts n k) (binom n (suc k) ∷ []), last, sum_bound n k h, binom_bound n (suc k) h)

bound_more : (k j : ℕ) → bound k ≤ bound (k + j)
bound_more k zero = subst (λ (n : ℕ). bound k ≤ bound n) (sym (add-zero k)) (le_refl (bound k))
bound_more k (suc j) =
    let next : bound (k + suc j) ≡ max_wires * bound (k + j) = ap bound (add-suc k j) in
    omega (arith, bound_more k j, next)

zeros_sum : (n : ℕ) → sum (replicate n 0) ≡ 0
zeros_sum zero = refl
zeros_sum (suc n) = omega (arith, zeros_sum n)

pub total_exact : (wires order : ℕ) → wires ≤ max_wires → order ≤ max_order → total_of (counted wires order) ≡ fold ◌+◌ 0 (λ n. n) (set_counts wires order)
total_exact wires order few low =
    let rest : sum (counted wires order) ≡ sum (set_counts wires order) =
    fold-append ◌+◌ 0 zero-add add_assoc (λ n. n) (set_counts wires order) (replicate (max_order - order) 0)
    ∙ ap (λ (n : ℕ). sum (set_counts wires order) + n) (zeros_sum (max_order - order)) ∙ add-zero (sum (set_counts wires order)) in
    let end : order + (max_order - order) ≡ max_order = omega (arith, low) in
    let high : bound order ≤ bound max_order = subst (λ (k : ℕ). bound order ≤ bound k) end (bound_more order (max_order - order)) in
    ap capped rest ∙ capped-low (sum (set_counts wires order)) (omega (arith, sum_bound wires order few, high))
