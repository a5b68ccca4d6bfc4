-- The lower of what was kept and of the rank of a set that breaks; whether the last wire leaves masks.
--     lower-rank, higher-rank, no_break     the set breaks and its rank is lower, is not lower; the set does not break
--     not_last, at_last, last-masked        more wires are to come; the last one; it leaves masks
use Prim.Native.Nat.{ℕ, ◌≤◌, ◌<◌}
use native.Mathlib.Nat.{le_refl, lt_irrefl}
use native.Mathlib.Omega.{arith}
use mathlib.Core.Path.{◌≡◌, sym, ◌∙◌, ap}
use mathlib.Core.Bool.{Bool, true, false, ◌&&◌, true≢false}
use borrow.Author.Tests.{eqb-true, eq-eqb, ne_eqb}
use lib.Dec.{eqb}
use Rattle.basics.proofs.Tests.{and_left, and_right}
use Rattle.choices.specs.Marks.{Settled}

pub lower-rank : (breaks told : Bool) (rank r before : ℕ) → told ≡ breaks → told ≡ true → r ≡ rank → r < before → Settled breaks rank before r
lower-rank breaks told rank r before e broken is less = record {
  most = omega (arith, less);
  lower = λ b. omega (arith, is);
  ranked = λ b. (sym e ∙ broken, is);
}

pub higher-rank : (breaks : Bool) (rank r before : ℕ) → r ≡ rank → before ≤ r → Settled breaks rank before before
higher-rank breaks rank r before is more = record { most = le_refl before; lower = λ b. omega (arith, is, more); ranked = λ less. absurd (lt_irrefl before less) }

pub no_break : (breaks told : Bool) (rank before : ℕ) → told ≡ breaks → told ≡ false → Settled breaks rank before before
no_break breaks told rank before e none = record {
  most = le_refl before;
  lower = λ b. absurd (true≢false (sym b ∙ sym e ∙ none));
  ranked = λ less. absurd (lt_irrefl before less);
}

pub not_last : (left : ℕ) (masks : Bool) → (left ≡ 1 → ⊥) → false ≡ (eqb left 1 && masks)
not_last left masks more = sym (ap (λ (b : Bool). b && masks) (ne_eqb left 1 more))

pub at_last : (left : ℕ) (masks told : Bool) → left ≡ 1 → told ≡ masks → told ≡ (eqb left 1 && masks)
at_last left masks told last e = e ∙ sym (ap (λ (b : Bool). b && masks) (eq-eqb left 1 last))

pub last-masked : (left : ℕ) (masks told : Bool) → told ≡ (eqb left 1 && masks) → told ≡ true → (left ≡ 1) × (masks ≡ true)
last-masked left masks told e is =
    let both : (eqb left 1 && masks) ≡ true = sym e ∙ is in (eqb-true left 1 (and_left (eqb left 1) masks both), and_right (eqb left 1) masks both)
