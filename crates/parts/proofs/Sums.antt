-- Sums and counts over a set and over its parts.
--     fold-members     a fold over the members, as one over all wires
--     fold-parted      a fold over a set is put together from those over its parts
--     sum, paid        the terms of a set added up, and how many of its wires pay
--     sum-parted, paid_parted, length-parted     they are put together from those of its parts
--     sum_one, paid_one, length-one              those of one wire
--     length_some, length_none                   a set with a wire has members, and one without members has no wire
use Prim.Native.Nat.{ℕ, ◌+◌, ◌<◌}
use native.Mathlib.Nat.{zero-add, add-zero, add_comm, add_assoc}
use native.Mathlib.Omega.{arith}
use mathlib.Core.Path.{◌≡◌, refl, sym, ◌∙◌, ap, ap₂}
use mathlib.Core.Bool.{Bool, true, false, cond}
use mathlib.Core.List.{List, [], ◌∷◌, map}
use borrow.Author.Tests.{eqb-true}
use lib.Dec.{eqb}
use lib.ListN.{length}
use Rattle.basics.specs.Folds.{fold, keep, one_if, up_to}
use Rattle.basics.proofs.Folds.{fold-map, fold_both, fold-below, fold_pick}
use Rattle.wires.specs.declared.Notion.{Notion}
use Rattle.wires.specs.Wires.{Terms, Wire, none, plus, total, pays, allowed}
use Rattle.wires.proofs.Value.{plus_none, none-plus, plus_comm, plus_assoc}
use Rattle.parts.specs.Parts.{members, Parted}
use Rattle.parts.proofs.Members.{members-length, rest, rest-parted}

module _ {B : Type 0} (op : B → B → B) (e : B) (unit : (x : B) → op e x ≡ x) where
  pub fold-members : {A : Type 0} (wire : ℕ → A) (f : A → B) (n : ℕ) (s : ℕ → Bool)
      → fold op e f (map wire (members n s)) ≡ fold op e (λ w. cond (s w) (f (wire w)) e) (up_to n)
  fold-members wire f n s = fold-map op e wire f (members n s) ∙ go (up_to n)
    where
      go : (l : List ℕ) → fold op e (λ w. f (wire w)) (keep s l) ≡ fold op e (λ w. cond (s w) (f (wire w)) e) l
      go [] = refl
      go (x ∷ l) = one (s x) (go l)
        where
          one : (b : Bool) → fold op e (λ w. f (wire w)) (keep s l) ≡ fold op e (λ w. cond (s w) (f (wire w)) e) l
              → fold op e (λ w. f (wire w)) (cond b (x ∷ keep s l) (keep s l))
              ≡ op (cond b (f (wire x)) e) (fold op e (λ w. cond (s w) (f (wire w)) e) l)
          one true h = ap (op (f (wire x))) h
          one false h = h ∙ sym (unit (fold op e (λ w. cond (s w) (f (wire w)) e) l))

  module _ (unit-right : (x : B) → op x e ≡ x) (comm : (x y : B) → op x y ≡ op y x) (assoc : (x y z : B) → op (op x y) z ≡ op x (op y z)) where
    pub fold-parted : (f : ℕ → B) (n : ℕ) (s p q : ℕ → Bool) → Parted n s p q
        → fold op e (λ w. cond (s w) (f w) e) (up_to n)
        ≡ op (fold op e (λ w. cond (p w) (f w) e) (up_to n)) (fold op e (λ w. cond (q w) (f w) e) (up_to n))
    fold-parted f n s p q h =
        fold-below op e n (λ w. cond (s w) (f w) e) (λ w. op (cond (p w) (f w) e) (cond (q w) (f w) e)) (λ w k. at (s w) (p w) (q w) (f w) (h w k))
        ∙ fold_both op e unit comm assoc (λ w. cond (p w) (f w) e) (λ w. cond (q w) (f w) e) (up_to n)
      where
        at : (a b c : Bool) (x : B) → one_if a ≡ one_if b + one_if c → cond a x e ≡ op (cond b x e) (cond c x e)
        at true true true x h = let z : ⊥ = omega arith in absurd z
        at true true false x h = sym (unit-right x)
        at true false true x h = sym (unit x)
        at true false false x h = let z : ⊥ = omega arith in absurd z
        at false true true x h = let z : ⊥ = omega arith in absurd z
        at false true false x h = let z : ⊥ = omega arith in absurd z
        at false false true x h = let z : ⊥ = omega arith in absurd z
        at false false false x h = sym (unit e)

-- the wires that are tested, the notion, and how many wires there are
module _ (wire : ℕ → Wire) (n : ℕ) where
  abbrev pub sum : (ℕ → Bool) → Terms
  sum s = total (map wire (members n s))

  abbrev pub paid : Notion → (ℕ → Bool) → ℕ
  paid notion s = allowed notion (map wire (members n s))

  -- as folds over all wires
  sums : (s : ℕ → Bool) → sum s ≡ fold plus none (λ w. cond (s w) (wire w).terms none) (up_to n)
  sums s = fold-members plus none none-plus wire (λ w. w.terms) n s

  pays-all : (notion : Notion) (s : ℕ → Bool) → paid notion s ≡ fold ◌+◌ 0 (λ w. cond (s w) (one_if (pays notion (wire w))) 0) (up_to n)
  pays-all notion s = fold-members ◌+◌ 0 zero-add wire (λ w. one_if (pays notion w)) n s

  pub sum-parted : (s p q : ℕ → Bool) → Parted n s p q → sum s ≡ plus (sum p) (sum q)
  sum-parted s p q h =
      sums s ∙ fold-parted plus none none-plus plus_none plus_comm plus_assoc (λ w. (wire w).terms) n s p q h ∙ ap₂ plus (sym (sums p)) (sym (sums q))

  pub paid_parted : (notion : Notion) (s p q : ℕ → Bool) → Parted n s p q → paid notion s ≡ paid notion p + paid notion q
  paid_parted notion s p q h =
      pays-all notion s
      ∙ fold-parted ◌+◌ 0 zero-add add-zero add_comm add_assoc (λ w. one_if (pays notion (wire w))) n s p q h
      ∙ ap₂ (λ (a b : ℕ). a + b) (sym (pays-all notion p)) (sym (pays-all notion q))

  -- one wire alone
  module _ (x : ℕ) (below : x < n) where
    pub sum_one : sum (λ w. eqb w x) ≡ (wire x).terms
    sum_one = sums (λ w. eqb w x) ∙ fold_pick plus none none-plus plus_none n x (λ w. (wire w).terms) below

    pub paid_one : (notion : Notion) → paid notion (λ w. eqb w x) ≡ one_if (pays notion (wire x))
    paid_one notion = pays-all notion (λ w. eqb w x) ∙ fold_pick ◌+◌ 0 zero-add add-zero n x (λ w. one_if (pays notion (wire w))) below

pub length-parted : (n : ℕ) (s p q : ℕ → Bool) → Parted n s p q → length (members n s) ≡ length (members n p) + length (members n q)
length-parted n s p q h =
    members-length n s ∙ fold-parted ◌+◌ 0 zero-add add-zero add_comm add_assoc (λ w. 1) n s p q h
    ∙ ap₂ (λ (a b : ℕ). a + b) (sym (members-length n p)) (sym (members-length n q))

pub length-one : (n x : ℕ) → x < n → length (members n (λ w. eqb w x)) ≡ 1
length-one n x h =
    members-length n (λ w. eqb w x) ∙ fold_pick ◌+◌ 0 zero-add add-zero n x (λ w. 1) h

-- a wire of a set is one of its members
pub length_some : (n x : ℕ) (s : ℕ → Bool) → x < n → s x ≡ true → 0 < length (members n s)
length_some n x s h e =
    let both = length-parted n s (λ w. eqb w x) (rest s (λ w. eqb w x)) (rest-parted n s (λ w. eqb w x) (λ w k p. ap s (eqb-true w x p) ∙ e)) in
    omega (arith, both, length-one n x h)

-- and so a set with no members has no wire
pub length_none : (n x : ℕ) (s : ℕ → Bool) → x < n → length (members n s) ≡ 0 → s x ≡ false
length_none n x s h e = go (s x) refl
  where
    go : (b : Bool) → s x ≡ b → b ≡ false
    go true p = let some = length_some n x s h p in let z : ⊥ = omega (arith, some, e) in absurd z
    go false p = refl
