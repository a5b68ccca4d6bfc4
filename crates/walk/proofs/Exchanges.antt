-- What an exchange of one wire for another is.
--     turned                     an exchange read backwards
--     beside, below              more wires on both sides, after and before
--     lost, gained               what the one list has and the other has not
--     kept                       every other wire is in both or in neither
--     exchanged_once             two lists are one exchange apart
use Prim.Native.Nat.{ℕ, suc, ◌≤◌, ◌<◌}
use native.Mathlib.Omega.{arith}
use mathlib.Core.Path.{◌≡◌, refl, sym, ◌∙◌, ap, ap₂}
use mathlib.Core.Bool.{Bool, true, false, cond, ◌||◌, not, true≢false, or_assoc}
use mathlib.Core.List.{List, [], ◌∷◌, ◌++◌}
use borrow.Author.Tests.{eq-eqb, ne_eqb, eqb-true}
use lib.Dec.{eqb}
use Rattle.basics.specs.Folds.{up_to}
use Rattle.basics.proofs.Tests.{or-none}
use Rattle.basics.proofs.Folds.{fold-append, keep_append, none_below}
use Rattle.walk.specs.Neighbours.{contains, without, Exchanged}

pub contains-append : (x : ℕ) (s t : List ℕ) → contains x (s ++ t) ≡ (contains x s || contains x t)
contains-append x = fold-append ◌||◌ false (λ b. refl) or_assoc (eqb x)

without-append : (x : ℕ) (s t : List ℕ) → without x (s ++ t) ≡ without x s ++ without x t
without-append x = keep_append (λ y. not (eqb x y))

pub not-below : (n x : ℕ) → n ≤ x → contains x (up_to n) ≡ false
not-below n x h = none_below n (eqb x) (λ i k. ne_eqb x i (omega arith))

pub without-none : (x : ℕ) (s : List ℕ) → contains x s ≡ false → without x s ≡ s
without-none x [] e = refl
without-none x (y ∷ s) e =
    let parts = or-none (eqb x y) (contains x s) e in
    ap {B = List ℕ} (λ (b : Bool). cond (not b) (y ∷ without x s) (without x s)) parts.0 ∙ ap {B = List ℕ} (λ l. y ∷ l) (without-none x s parts.1)

pub turned : {s t : List ℕ} {x y : ℕ} → Exchanged s t x y → Exchanged t s y x
turned e = record { was = e.come; gone = e.fresh; come = e.was; fresh = e.gone; rest = sym e.rest }

module _ {s t : List ℕ} {x y : ℕ} (e : Exchanged s t x y) where
  -- the same wires after both
  pub beside : (l : List ℕ) → contains x l ≡ false → contains y l ≡ false → Exchanged (s ++ l) (t ++ l) x y
  beside l p q = record {
    was = contains-append x s l ∙ ap (λ (b : Bool). b || contains x l) e.was;
    gone = contains-append x t l ∙ ap₂ ◌||◌ e.gone p;
    come = contains-append y t l ∙ ap (λ (b : Bool). b || contains y l) e.come;
    fresh = contains-append y s l ∙ ap₂ ◌||◌ e.fresh q;
    rest = without-append x s l ∙ ap₂ {C = List ℕ} ◌++◌ e.rest (without-none x l p ∙ sym (without-none y l q)) ∙ sym (without-append y t l);
  }

  -- the same wires before both
  pub below : (l : List ℕ) → contains x l ≡ false → contains y l ≡ false → Exchanged (l ++ s) (l ++ t) x y
  below l p q = record {
    was = contains-append x l s ∙ ap₂ ◌||◌ p e.was;
    gone = contains-append x l t ∙ ap₂ ◌||◌ p e.gone;
    come = contains-append y l t ∙ ap₂ ◌||◌ q e.come;
    fresh = contains-append y l s ∙ ap₂ ◌||◌ q e.fresh;
    rest = without-append x l s ∙ ap₂ {C = List ℕ} ◌++◌ (without-none x l p ∙ sym (without-none y l q)) e.rest ∙ sym (without-append y l t);
  }

-- one wire alone
pub alone : (x y : ℕ) → x < y → Exchanged (x ∷ []) (y ∷ []) x y
alone x y h = record {
  was = rw (eq-eqb x x refl) refl;
  gone = rw (ne_eqb x y (omega arith)) refl;
  come = rw (eq-eqb y y refl) refl;
  fresh = rw (ne_eqb y x (omega arith)) refl;
  rest = rw (eq-eqb x x refl, eq-eqb y y refl) refl;
}

-- the wire j below x leaves, and one comes above it
pub over : (j x : ℕ) → j < x → Exchanged (j ∷ x ∷ []) (x ∷ suc x ∷ []) j (suc x)
over j x h = record {
  was = rw (eq-eqb j j refl) refl;
  gone = rw (ne_eqb j x (omega arith), ne_eqb j (suc x) (omega arith)) refl;
  come = rw (ne_eqb (suc x) x (omega arith), eq-eqb (suc x) (suc x) refl) refl;
  fresh = rw (ne_eqb (suc x) j (omega arith), ne_eqb (suc x) x (omega arith)) refl;
  rest = rw (eq-eqb j j refl, ne_eqb j x (omega arith), ne_eqb (suc x) x (omega arith), eq-eqb (suc x) (suc x) refl) refl;
}

-- another wire than x is left alone
without_other : (x z : ℕ) (s : List ℕ) → eqb z x ≡ false → contains z (without x s) ≡ contains z s
without_other x z [] d = refl
without_other x z (y ∷ s) d = go (eqb x y) refl (without_other x z s d)
  where
    go : (b : Bool) → eqb x y ≡ b → contains z (without x s) ≡ contains z s → contains z (cond (not b) (y ∷ without x s) (without x s)) ≡ contains z (y ∷ s)
    go true p ih = ih ∙ ap (λ (b : Bool). b || contains z s) (sym d ∙ ap (eqb z) (eqb-true x y p))
    go false p ih = ap (λ (b : Bool). eqb z y || b) ih

module _ {s t : List ℕ} {x y : ℕ} (e : Exchanged s t x y) where
  pub kept : (z : ℕ) → eqb z x ≡ false → eqb z y ≡ false → contains z s ≡ contains z t
  kept z p q = sym (without_other x z s p) ∙ ap (contains z) e.rest ∙ without_other y z t q

  -- what s has and t has not is x
  pub lost : (z : ℕ) → contains z s ≡ true → contains z t ≡ false → z ≡ x
  lost z p q = go (eqb z x) refl (eqb z y) refl
    where
      go : (a : Bool) → eqb z x ≡ a → (b : Bool) → eqb z y ≡ b → z ≡ x
      go true a d b = eqb-true z x a
      go false a true b = absurd (true≢false (sym p ∙ ap (λ (i : ℕ). contains i s) (eqb-true z y b) ∙ e.fresh))
      go false a false b = absurd (true≢false (sym p ∙ kept z a b ∙ q))

module _ {s t : List ℕ} {x y : ℕ} (e : Exchanged s t x y) where
  pub gained : (z : ℕ) → contains z t ≡ true → contains z s ≡ false → z ≡ y
  gained = lost (turned e)

  pub exchanged_once : {u v : ℕ} → Exchanged s t u v → (u ≡ x) × (v ≡ y)
  exchanged_once {u = u} {v = v} f = (lost e u f.was f.gone, gained v f.come f.fresh)
