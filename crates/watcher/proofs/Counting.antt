-- Sums of numbers over a list.
--     sum f l                  f x + (f y + … 0) for the elements x, y, … of l
--     sum-le, count-le         what is nowhere more is no more in sum; a test that passes no more often counts no more
--     sum_both, sum_times      the sum of two functions; a factor taken out
--     sum_exchange             two sums in either order
--     count_split              the elements that pass a test, with a second one and without it
--     count_none, count-some   a test that passes nowhere; that passes somewhere
--     count_up_to              of the numbers below n no more than n pass a test
--     covered                  where nothing passes one test and not another, no more pass the one than the other
use Prim.Native.Nat.{ℕ, zero, suc, ◌+◌, ◌*◌, ◌≤◌}
use native.Mathlib.Nat.{zero-add, add_comm, add_assoc, add-le-add, add-mul, zero-mul, le_refl}
use native.Mathlib.Omega.{arith}
use mathlib.Core.Path.{◌≡◌, refl, sym, ◌∙◌, ap}
use mathlib.Core.Bool.{Bool, true, false, not, ◌&&◌, ◌||◌, true≢false, false≢true}
use mathlib.Core.List.{List, [], ◌∷◌}
use Rattle.basics.specs.Folds.{fold, some, count, one_if, up_to}
use Rattle.basics.proofs.Tests.{or-none}
use Rattle.basics.proofs.Folds.{fold_cong, fold_hom, fold_unit, fold_both, fold_exchange, fold-first}

module _ {A : Type 0} where
  abbrev pub sum : (A → ℕ) → List A → ℕ
  sum = fold ◌+◌ 0

  pub sum-le : (f g : A → ℕ) (l : List A) → ((x : A) → f x ≤ g x) → sum f l ≤ sum g l
  sum-le f g [] h = le_refl 0
  sum-le f g (x ∷ l) h = add-le-add (h x) (sum-le f g l h)

  pub sum_both : (f g : A → ℕ) (l : List A) → sum (λ x. f x + g x) l ≡ sum f l + sum g l
  sum_both = fold_both ◌+◌ 0 zero-add add_comm add_assoc

  pub sum_times : (f : A → ℕ) (k : ℕ) (l : List A) → sum (λ x. f x * k) l ≡ sum f l * k
  sum_times f k l = sym (fold_hom ◌+◌ 0 ◌+◌ 0 (λ (x : ℕ). x * k) (zero-mul k) (λ x y. add-mul x y k) f l)

  pub sum_exchange : {C : Type 0} (f : A → C → ℕ) (l : List A) (k : List C) → sum (λ x. fold ◌+◌ 0 (f x) k) l ≡ fold ◌+◌ 0 (λ y. sum (λ x. f x y) l) k
  sum_exchange = fold_exchange ◌+◌ 0 zero-add add_comm add_assoc

  pub count_split : (f g : A → Bool) (l : List A) → count (λ x. f x && g x) l + count (λ x. f x && not (g x)) l ≡ count f l
  count_split f g l =
      sym (sum_both (λ x. one_if (f x && g x)) (λ x. one_if (f x && not (g x))) l)
      ∙ fold_cong ◌+◌ 0 (λ x. one_if (f x && g x) + one_if (f x && not (g x))) (λ x. one_if (f x)) l (λ x. go (f x) (g x))
    where
      go : (a b : Bool) → one_if (a && b) + one_if (a && not b) ≡ one_if a
      go true true = refl
      go true false = refl
      go false b = refl

  pub count_none : (f : A → Bool) (l : List A) → some f l ≡ false → count f l ≡ 0
  count_none f [] e = refl
  count_none f (x ∷ l) e = go (f x) e (count_none f l)
    where
      go : (b : Bool) → (b || some f l) ≡ false → (some f l ≡ false → count f l ≡ 0) → one_if b + count f l ≡ 0
      go true e rest = absurd (true≢false e)
      go false e rest = ap (λ (k : ℕ). 0 + k) (rest e)

  pub count-some : (f : A → Bool) (l : List A) → some f l ≡ true → 1 ≤ count f l
  count-some f [] e = absurd (false≢true e)
  count-some f (x ∷ l) e = go (f x) e (count-some f l)
    where
      go : (b : Bool) → (b || some f l) ≡ true → (some f l ≡ true → 1 ≤ count f l) → 1 ≤ one_if b + count f l
      go true e rest = omega arith
      go false e rest = omega (arith, rest e)

-- where every element that passes one test passes another, no more pass the one than the other
module _ {A : Type 0} (f g : A → Bool) where
  pub covered : (l : List A) → some (λ x. g x && not (f x)) l ≡ false → count g l ≤ count f l
  covered [] e = le_refl 0
  covered (x ∷ l) e =
      let parts = or-none (g x && not (f x)) (some (λ x. g x && not (f x)) l) e in
      omega (arith, one (f x) (g x) parts.0, covered l parts.1)
    where
      one : (a b : Bool) → (b && not a) ≡ false → one_if b ≤ one_if a
      one true true e = le_refl 1
      one true false e = omega arith
      one false true e = absurd (true≢false e)
      one false false e = le_refl 0

module _ {A : Type 0} where
  pub count-le : (f g : A → Bool) (l : List A) → ((x : A) → f x ≡ true → g x ≡ true) → count f l ≤ count g l
  count-le f g l h = covered g f l (fold_unit ◌||◌ false (λ b. refl) (λ x. f x && not (g x)) l (λ x. go (f x) (g x) (h x)))
    where
      go : (a b : Bool) → (a ≡ true → b ≡ true) → (a && not b) ≡ false
      go true b e = ap not (e refl)
      go false b e = refl

pub count_up_to : (n : ℕ) (f : ℕ → Bool) → count f (up_to n) ≤ n
unfolding up_to
count_up_to zero f = le_refl 0
count_up_to (suc n) f = omega (arith, fold-first ◌+◌ 0 n (λ i. one_if (f i)), one (f 0), count_up_to n (λ i. f (suc i)))
  where
    one : (b : Bool) → one_if b ≤ 1
    one true = le_refl 1
    one false = omega arith
