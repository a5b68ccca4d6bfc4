-- The elements of a list that pass a test, and the first of them. These facts know nothing of wires.
--     keep-none_more     where none of the first i passes, and the next does not, none of the first i + 1 does
--     keep-found         where none of the first i passes and the next does, that is the first that passes
--     Each               something holds of every element
--     each_place, at_place          of every element exactly when at every place
--     each_append, each-parts       of two lists after one another exactly when of both
--     each_take, each-drop          of a part
--     keep_same          tests that say the same of every element keep the same ones
--     keep-first         the first that is kept passes, and what holds of every element holds of it
--     keep_place         it stands at a place, and the test fails at every place before
--     take_none, drop-none     the first 0 elements; all but these
--     keep-none, none-keep     none is kept exactly when the test fails on every element
use Prim.Native.Nat.{ℕ, zero, suc, ◌+◌, ◌<◌, suc-le-suc}
use native.Mathlib.Nat.{not-suc-le-zero, le_of_suc-le-suc, zero-lt-suc}
use native.Mathlib.Omega.{arith}
use mathlib.Core.Path.{◌≡◌, refl, sym, ◌∙◌, ap, ap₂, subst}
use mathlib.Core.Bool.{Bool, true, false, cond}
use mathlib.Core.List.{List, [], ◌∷◌, ◌++◌}
use lib.ListN.{length, get_or, take, drop}
use lib.Seq.{take-suc, split_at}
use Rattle.basics.specs.Folds.{keep}
use Rattle.basics.proofs.Folds.{keep_append}

module _ {A : Type 0} (f : A → Bool) (l : List A) (i : ℕ) (d : A) (h : i < length l) (none : keep f (take i l) ≡ []) where
  pub keep-none_more : f (get_or l i d) ≡ false → keep f (take (i + 1) l) ≡ []
  keep-none_more e =
      let more : i + 1 ≡ suc i = omega arith in
      ap (λ (k : ℕ). keep f (take k l)) more ∙ ap (keep f) (take-suc l i d h) ∙ keep_append f (take i l) (get_or l i d ∷ [])
      ∙ ap₂ {C = List A} (λ p q. p ++ q) none (ap {B = List A} (λ b. cond b (get_or l i d ∷ []) []) e)

  pub keep-found : f (get_or l i d) ≡ true → keep f l ≡ get_or l i d ∷ keep f (drop (suc i) l)
  keep-found e =
      ap (keep f) (split_at l i d h) ∙ keep_append f (take i l) (get_or l i d ∷ drop (suc i) l)
      ∙ ap₂ {C = List A} (λ p q. p ++ q) none
      (ap {B = List A} (λ b. cond b (get_or l i d ∷ keep f (drop (suc i) l)) (keep f (drop (suc i) l))) e)

module _ {A : Type 0} (P : A → Type 0) where
  abbrev pub Each : List A → Type 0
  Each [] = Unit {0}
  Each (x ∷ l) = P x × Each l

  pub each_place : (l : List A) (d : A) → ((i : ℕ) → i < length l → P (get_or l i d)) → Each l
  each_place [] d h = tt
  each_place (x ∷ l) d h = (h 0 (zero-lt-suc (length l)), each_place l d (λ i k. h (suc i) (suc-le-suc k)))

  pub at_place : (l : List A) (d : A) → Each l → (i : ℕ) → i < length l → P (get_or l i d)
  at_place [] d e i h = absurd (not-suc-le-zero h)
  at_place (x ∷ l) d e zero h = e.0
  at_place (x ∷ l) d e (suc i) h = at_place l d e.1 i (le_of_suc-le-suc h)

  pub each_append : (k l : List A) → Each k → Each l → Each (k ++ l)
  each_append [] l a b = b
  each_append (x ∷ k) l a b = (a.0, each_append k l a.1 b)

  pub each-parts : (k l : List A) → Each (k ++ l) → Each k × Each l
  each-parts [] l a = (tt, a)
  each-parts (x ∷ k) l a = let r = each-parts k l a.1 in ((a.0, r.0), r.1)

  pub each_take : (i : ℕ) (l : List A) → Each l → Each (take i l)
  each_take zero [] a = tt
  each_take (suc i) [] a = tt
  each_take zero (x ∷ l) a = tt
  each_take (suc i) (x ∷ l) a = (a.0, each_take i l a.1)

  pub each-drop : (i : ℕ) (l : List A) → Each l → Each (drop i l)
  each-drop zero [] a = a
  each-drop zero (x ∷ l) a = a
  each-drop (suc i) [] a = tt
  each-drop (suc i) (x ∷ l) a = each-drop i l a.1

module _ {A : Type 0} where
  pub take_none : (l : List A) → take 0 l ≡ []
  take_none [] = refl
  take_none (x ∷ l) = refl

  pub drop-none : (l : List A) → drop 0 l ≡ l
  drop-none [] = refl
  drop-none (x ∷ l) = refl

  pub keep_place : (f : A → Bool) (l : List A) (x d : A) (later : List A) → keep f l ≡ x ∷ later
      → (i : ℕ) × (i < length l) × (get_or l i d ≡ x) × (f x ≡ true) × ((j : ℕ) → j < i → f (get_or l j d) ≡ false)
  keep_place f [] x d later e = let z : ◌≡◌ {A = ℕ} 0 1 = cc in let w : ⊥ = omega (arith, z) in absurd w
  keep_place f (y ∷ l) x d later e = go (f y) refl e (keep_place f l x d later)
    where
      Stands : List A → Type 0
      Stands l = (i : ℕ) × (i < length l) × (get_or l i d ≡ x) × (f x ≡ true) × ((j : ℕ) → j < i → f (get_or l j d) ≡ false)

      go : (b : Bool) → f y ≡ b → cond b (y ∷ keep f l) (keep f l) ≡ x ∷ later → (keep f l ≡ x ∷ later → Stands l) → Stands (y ∷ l)
      go true p q ih =
          let same : y ≡ x = cc in (0, zero-lt-suc (length l), same, ap f (sym same) ∙ p, λ j h. absurd (not-suc-le-zero h))
      go false p q ih = let r = ih q in (suc r.0, suc-le-suc r.1, r.2, r.3, before r.4)
        where
          before : {i : ℕ} → ((j : ℕ) → j < i → f (get_or l j d) ≡ false) → (j : ℕ) → j < suc i → f (get_or (y ∷ l) j d) ≡ false
          before h zero b = p
          before h (suc j) b = h j (le_of_suc-le-suc b)

  pub keep_same : (f g : A → Bool) (l : List A) → Each (λ x. f x ≡ g x) l → keep f l ≡ keep g l
  keep_same f g [] e = refl
  keep_same f g (x ∷ l) e = ap₂ {C = List A} (λ b m. cond b (x ∷ m) m) e.0 (keep_same f g l e.1)

  pub keep-first : (f : A → Bool) (P : A → Type 0) (l : List A) (x : A) (later : List A) → Each P l → keep f l ≡ x ∷ later → P x × (f x ≡ true)
  keep-first f P l x later each e = let r = keep_place f l x x later e in (subst P r.2 (at_place P l x each r.0 r.1), r.3)

  pub none-keep : (f : A → Bool) (l : List A) → Each (λ x. f x ≡ false) l → keep f l ≡ []
  none-keep f [] e = refl
  none-keep f (x ∷ l) e = ap {B = List A} (λ b. cond b (x ∷ keep f l) (keep f l)) e.0 ∙ none-keep f l e.1

  pub keep-none : (f : A → Bool) (l : List A) → keep f l ≡ [] → Each (λ x. f x ≡ false) l
  keep-none f [] e = tt
  keep-none f (x ∷ l) e = go (f x) refl e (keep-none f l)
    where
      go : (b : Bool) → f x ≡ b → cond b (x ∷ keep f l) (keep f l) ≡ [] → (keep f l ≡ [] → Each (λ x. f x ≡ false) l) → (f x ≡ false)
          × Each (λ x. f x ≡ false) l
      go true p q ih = absurd (cons-nil q)
        where
          cons-nil : ◌≡◌ {A = List A} (x ∷ keep f l) [] → ⊥
          cons-nil e = let z : ◌≡◌ {A = ℕ} 0 1 = cc in omega (arith, z)
      go false p q ih = (p, ih q)
