-- Facts on lists that know nothing of wires or of an order.
--     get_d_map, get_d_reverse                   an element of a mapped list, of a reversed list
--     same_refl, same_true, same_snoc          what the test of two lists says
--     ends-or-empty                            a list is empty or has a last element
--     times_append, times_reverse, times_snoc, times_empty     how often a list stands in a list of lists
--     times_at, place_in, place_at             the places at which it stands
use Prim.Native.Nat.{ℕ, zero, suc, ◌+◌, ◌≤◌, ◌<◌}
use native.Mathlib.Nat.{zero-add, not-suc-le-zero, le_of_suc-le-suc, suc-ne-zero}
use native.Mathlib.Omega.{arith}
use mathlib.Core.Path.{◌≡◌, refl, sym, ◌∙◌, ap, ap₂}
use mathlib.Core.Logic.{◌⊎◌, inl, inr}
use mathlib.Core.Bool.{Bool, true, false, cond, ◌&&◌, true≢false, and-false, and-true, and_assoc}
use mathlib.Core.List.{List, [], ◌∷◌, ◌++◌, map, reverse, reverse-cons}
use borrow.Author.Tests.{eq-eqb, eqb-true}
use lib.Dec.{eqb}
use lib.ListN.{length, get_or, length-reverse, get_or-append}
use Rattle.basics.specs.Folds.{one_if}
use Rattle.basics.proofs.Tests.{and_left, and_right}
use Rattle.counts.proofs.Lists.{get_d_second}
use Rattle.revolving.specs.Order.{same, times_in, place_of}

module _ {A B : Type 0} where
  pub get_d_map : (f : A → B) (l : List A) (i : ℕ) (d : A) (e : B) → i < length l → get_or (map f l) i e ≡ f (get_or l i d)
  get_d_map f [] i d e h = absurd (not-suc-le-zero h)
  get_d_map f (x ∷ l) zero d e h = refl
  get_d_map f (x ∷ l) (suc i) d e h = get_d_map f l i d e (le_of_suc-le-suc h)

module _ {A : Type 0} where
  -- the places of a reversed list, counted from its two ends, add up to its length less one
  pub get_d_reverse : (l : List A) (i j : ℕ) (d : A) → i + suc j ≡ length l → get_or (reverse l) i d ≡ get_or l j d
  get_d_reverse [] i j d e = let z : ◌≡◌ {A = ℕ} 0 1 = omega arith in absurd (suc-ne-zero 0 (sym z))
  get_d_reverse (x ∷ l) i zero d e =
      let p : length (reverse l) + 0 ≡ i = omega (arith, length-reverse l) in
      ap (λ (m : List A). get_or m i d) (reverse-cons x l) ∙ get_d_second (reverse l) (x ∷ []) i 0 d p
  get_d_reverse (x ∷ l) i (suc j) d e =
      let p : i < length (reverse l) = omega (arith, length-reverse l) in
      let q : i + suc j ≡ length l = omega arith in
      ap (λ (m : List A). get_or m i d) (reverse-cons x l) ∙ get_or-append (reverse l) (x ∷ []) d i p ∙ get_d_reverse l i j d q

pub same_refl : (s : List ℕ) → same s s ≡ true
same_refl [] = refl
same_refl (x ∷ s) = rw (eq-eqb x x refl) (same_refl s)

pub same_true : (s t : List ℕ) → same s t ≡ true → s ≡ t
same_true [] [] e = refl
same_true [] (y ∷ t) e = absurd (true≢false (sym e))
same_true (x ∷ s) [] e = absurd (true≢false (sym e))
same_true (x ∷ s) (y ∷ t) e =
    ap₂ {C = List ℕ} (λ (a : ℕ) (l : List ℕ). a ∷ l)
    (eqb-true x y (and_left (eqb x y) (same s t) e)) (same_true s t (and_right (eqb x y) (same s t) e))

-- two lists with last elements are equal when these are and what stands before them is
pub same_snoc : (s t : List ℕ) (x y : ℕ) → same (s ++ (x ∷ [])) (t ++ (y ∷ [])) ≡ (same s t && eqb x y)
same_snoc [] [] x y = and-true (eqb x y)
same_snoc [] (b ∷ []) x y = and-false (eqb x b)
same_snoc [] (b ∷ c ∷ t) x y = and-false (eqb x b)
same_snoc (a ∷ []) [] x y = and-false (eqb a y)
same_snoc (a ∷ c ∷ s) [] x y = and-false (eqb a y)
same_snoc (a ∷ s) (b ∷ t) x y =
    ap (λ (p : Bool). eqb a b && p) (same_snoc s t x y) ∙ sym (and_assoc (eqb a b) (same s t) (eqb x y))

pub ends-or-empty : (s : List ℕ) → (s ≡ []) ⊎ ((t : List ℕ) × (x : ℕ) × (s ≡ t ++ (x ∷ [])))
ends-or-empty [] = inl refl
ends-or-empty (a ∷ s) = go (ends-or-empty s)
  where
    go : (s ≡ []) ⊎ ((t : List ℕ) × (x : ℕ) × (s ≡ t ++ (x ∷ []))) → (◌≡◌ {A = List ℕ} (a ∷ s) []) ⊎ ((t : List ℕ) × (x : ℕ) × (a ∷ s ≡ t ++ (x ∷ [])))
    go (inl e) = inr ([], a, ap {B = List ℕ} (λ l. a ∷ l) e)
    go (inr p) = inr (a ∷ p.0, p.1, ap {B = List ℕ} (λ l. a ∷ l) p.2)

pub times_append : (s : List ℕ) (l m : List (List ℕ)) → times_in s (l ++ m) ≡ times_in s l + times_in s m
times_append s [] m = sym (zero-add (times_in s m))
times_append s (t ∷ l) m = omega (arith, times_append s l m)

pub times_reverse : (s : List ℕ) (l : List (List ℕ)) → times_in s (reverse l) ≡ times_in s l
times_reverse s [] = refl
times_reverse s (t ∷ l) =
    ap (times_in s) (reverse-cons t l) ∙ omega (arith, times_append s (reverse l) (t ∷ []), times_reverse s l)

-- in a list of lists that all end in n, a list stands as often as its front stands among the fronts, if it ends in n
pub times_snoc : (s : List ℕ) (x n : ℕ) (l : List (List ℕ)) → times_in (s ++ (x ∷ [])) (map (λ t. t ++ (n ∷ [])) l) ≡ cond (eqb x n) (times_in s l) 0
times_snoc s x n [] = go (eqb x n)
  where
    go : (b : Bool) → ◌≡◌ {A = ℕ} 0 (cond b 0 0)
    go true = refl
    go false = refl
times_snoc s x n (t ∷ l) =
    ap₂ (λ (b : Bool) (m : ℕ). one_if b + m) (same_snoc s t x n) (times_snoc s x n l) ∙ go (same s t) (eqb x n) (times_in s l)
  where
    go : (a b : Bool) (m : ℕ) → one_if (a && b) + cond b m 0 ≡ cond b (one_if a + m) 0
    go true true m = refl
    go true false m = refl
    go false true m = refl
    go false false m = refl

pub times_empty : (n : ℕ) (l : List (List ℕ)) → times_in [] (map (λ t. t ++ (n ∷ [])) l) ≡ 0
times_empty n [] = refl
times_empty n ([] ∷ l) = ap (λ (m : ℕ). 0 + m) (times_empty n l)
times_empty n ((x ∷ t) ∷ l) = ap (λ (m : ℕ). 0 + m) (times_empty n l)

-- what stands at a place stands in the list
pub times_at : (l : List (List ℕ)) (r : ℕ) → r < length l → 1 ≤ times_in (get_or l r []) l
times_at [] r h = absurd (not-suc-le-zero h)
times_at (t ∷ l) zero h = rw (same_refl t) (omega arith)
times_at (t ∷ l) (suc r) h = omega (arith, times_at l r (le_of_suc-le-suc h))

-- the first place of a list that stands in l
pub place_in : (s : List ℕ) (l : List (List ℕ)) → 1 ≤ times_in s l → (place_of s l < length l) × (get_or l (place_of s l) [] ≡ s)
place_in s [] h = absurd (not-suc-le-zero h)
place_in s (t ∷ l) h = go (same s t) refl h (place_in s l)
  where
    go : (b : Bool) → same s t ≡ b → 1 ≤ one_if b + times_in s l → (1 ≤ times_in s l → (place_of s l < length l) × (get_or l (place_of s l) [] ≡ s)) →
        (cond b 0 (suc (place_of s l)) < suc (length l)) × (get_or (t ∷ l) (cond b 0 (suc (place_of s l))) [] ≡ s)
    go true e h ih = (omega arith, sym (same_true s t e))
    go false e h ih = let m : 1 ≤ times_in s l = omega arith in (omega (arith, (ih m).0), (ih m).1)

-- a list that stands in l once has the place at which it stands
pub place_at : (l : List (List ℕ)) (r : ℕ) → r < length l → times_in (get_or l r []) l ≤ 1 → place_of (get_or l r []) l ≡ r
place_at [] r h once = absurd (not-suc-le-zero h)
place_at (t ∷ l) zero h once = rw (same_refl t)
place_at (t ∷ l) (suc r) h once = go (same (get_or l r []) t) once (place_at l r (le_of_suc-le-suc h))
  where
    go : (b : Bool) → one_if b + times_in (get_or l r []) l ≤ 1 → (times_in (get_or l r []) l ≤ 1 → place_of (get_or l r []) l ≡ r) →
        cond b 0 (suc (place_of (get_or l r []) l)) ≡ suc r
    go true c ih = let z : ⊥ = omega (arith, times_at l r (le_of_suc-le-suc h)) in absurd z
    go false c ih = ap suc (ih (omega arith))
