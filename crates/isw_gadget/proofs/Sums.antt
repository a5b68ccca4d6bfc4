-- Sums of numbers and of bits, over the numbers below n and over a square.
--     sum f n                          f 0 + f 1 + .. + f (n - 1)
--     sum_constant, sum_both, sum_least     of one number; of two functions; no less than one of its parts
--     plus-zero, zero-plus             0 is added
--     one_passes, nothing-passes       for how many numbers a test passes
--     length_lists, mapped_length      how long lists put together are, and a mapped one
--     square_diagonal                  a sum of bits over a square, of a function that is the same for (i, j) and (j, i), leaves its diagonal: every other
--                                      bit is added twice
use Prim.Native.Nat.{ℕ, zero, suc, ◌+◌, ◌*◌, ◌≤◌, ◌<◌}
use native.Mathlib.Nat.{not-suc-le-zero}
use native.Mathlib.Omega.{arith}
use mathlib.Core.Path.{◌≡◌, refl, sym, ◌∙◌, ap, ap₂}
use mathlib.Core.Bool.{Bool, false, cond, xor}
use mathlib.Core.List.{List, [], ◌∷◌, ◌++◌, map}
use lib.Dec.{eqb}
use lib.ListN.{length, length-append}
use Rattle.basics.specs.Folds.{fold, parity, one_if, up_to}
use Rattle.basics.proofs.Tests.{false-xor, xor_assoc, xor_self}
use Rattle.basics.proofs.Folds.{fold_cong, fold_hom, fold-first, fold-below, fold_unit, fold_both, fold_pick}
use Rattle.wires.proofs.Value.{parity_both}

abbrev pub sum : (ℕ → ℕ) → ℕ → ℕ
sum f n = fold ◌+◌ 0 f (up_to n)

pub sum_constant : (c n : ℕ) → sum (λ i. c) n ≡ c * n
unfolding up_to
sum_constant c zero = omega arith
sum_constant c (suc n) =
    let first = fold-first ◌+◌ 0 n (λ i. c) in
    let rest = sum_constant c n in
    omega (arith, first, rest)

-- a sum is no less than one of its parts
pub sum_least : (f : ℕ → ℕ) (n k : ℕ) → k < n → f k ≤ sum f n
unfolding up_to
sum_least f zero k h = absurd (not-suc-le-zero h)
sum_least f (suc n) zero h = let first = fold-first ◌+◌ 0 n f in omega (arith, first)
sum_least f (suc n) (suc k) h =
    let first = fold-first ◌+◌ 0 n f in
    let rest = sum_least (λ i. f (suc i)) n k (omega (arith, h)) in
    omega (arith, first, rest)

pub sum_both : (f g : ℕ → ℕ) (n : ℕ) → sum (λ i. f i + g i) n ≡ sum f n + sum g n
sum_both f g n = fold_both ◌+◌ 0 (λ k. omega arith) (λ k m. omega arith) (λ k l m. omega arith) f g (up_to n)

pub length_lists : {A C : Type 0} (g : C → List A) (l : List C) → length (fold ◌++◌ [] g l) ≡ fold ◌+◌ 0 (λ x. length (g x)) l
length_lists g l = fold_hom ◌++◌ [] ◌+◌ 0 length refl length-append g l

pub plus-zero : (k : ℕ) → k + 0 ≡ k
plus-zero k = omega arith

pub zero-plus : (k : ℕ) → 0 + k ≡ k
zero-plus k = omega arith

-- where a test passes for one number only, it passes once
pub one_passes : (n k : ℕ) (f : ℕ → Bool) → k < n → ((i : ℕ) → i < n → f i ≡ eqb i k) → sum (λ i. one_if (f i)) n ≡ 1
one_passes n k f h same =
    fold-below ◌+◌ 0 n (λ i. one_if (f i)) (λ i. cond (eqb i k) 1 0) (λ i b. ap (λ (c : Bool). one_if c) (same i b))
    ∙ fold_pick ◌+◌ 0 zero-plus plus-zero n k (λ i. 1) h

pub nothing-passes : (n : ℕ) → sum (λ i. 0) n ≡ 0
nothing-passes n = fold_unit ◌+◌ 0 zero-plus (λ i. 0) (up_to n) (λ i. refl)

pub mapped_length : {A C : Type 0} (f : A → C) (l : List A) → length (map f l) ≡ length l
mapped_length f [] = refl
mapped_length f (x ∷ l) = ap suc (mapped_length f l)

-- ---- bits

-- what is added twice goes
twice : (a b c : Bool) → xor (xor a b) (xor b c) ≡ xor a c
twice a b c =
    xor_assoc a b (xor b c) ∙ ap (xor a) (sym (xor_assoc b b c) ∙ ap (λ (z : Bool). xor z c) (xor_self b) ∙ false-xor c)

pub square_diagonal : (n : ℕ) (s : ℕ → ℕ → Bool) → ((i j : ℕ) → s i j ≡ s j i) → parity (λ i. parity (s i) (up_to n)) (up_to n) ≡ parity (λ i. s i i) (up_to n)
unfolding up_to
square_diagonal zero s same = refl
square_diagonal (suc n) s same =
    let row = parity (λ j. s 0 (suc j)) (up_to n) in
    let rest = parity (λ i. parity (λ j. s (suc i) (suc j)) (up_to n)) (up_to n) in
    fold-first xor false n (λ i. parity (s i) (up_to (suc n)))
    ∙ ap₂ xor (fold-first xor false n (s 0))
    (fold_cong xor false (λ i. parity (s (suc i)) (up_to (suc n))) (λ i. xor (s (suc i) 0) (parity (λ j. s (suc i) (suc j)) (up_to n))) (up_to n)
    (λ i. fold-first xor false n (s (suc i)))
    ∙ parity_both (λ i. s (suc i) 0) (λ i. parity (λ j. s (suc i) (suc j)) (up_to n)) (up_to n)
    ∙ ap (λ (z : Bool). xor z rest) (fold_cong xor false (λ i. s (suc i) 0) (λ j. s 0 (suc j)) (up_to n) (λ i. same (suc i) 0)))
    ∙ twice (s 0 0) row rest
    ∙ ap (xor (s 0 0)) (square_diagonal n (λ i j. s (suc i) (suc j)) (λ i j. same (suc i) (suc j)))
    ∙ sym (fold-first xor false n (λ i. s i i))
