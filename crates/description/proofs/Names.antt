-- The names of masks, as they are spelled and as they are read.
--     figure-parts, figure_back     a digit's byte is none that parts; the digit that a byte is
--     name_length_lem                   how many bytes a name has
--     digit_here, name_read          a name is read, where no digit follows
--     NameAt, read_name             what is read as a name is the name that stands there
use Rattle.std.specs.Prelude.{Some, None}
use Prim.Native.Nat.{ℕ, suc, ◌+◌, ◌*◌, ◌-◌, ◌/◌, ◌%◌, ◌≤◌, ◌<◌}
use native.Mathlib.Nat.{zero-lt-suc, mod-lt, div-add-mod'}
use native.Mathlib.Omega.{arith}
use mathlib.Core.Path.{◌≡◌, refl, sym, ◌∙◌, ap, ap₂, subst}
use mathlib.Core.Bool.{Bool, true, false, cond, not, ◌&&◌, ◌||◌}
use mathlib.Core.List.{List, [], ◌∷◌, ◌++◌}
use mathlib.Core.Logic.{◌≢◌}
use borrow.Author.Tests.{ltb-true, ltb-false, leb-true, eqb-true, eqb-false, lt-ltb, le-ltb, le-leb, ne_eqb, not-true}
use lib.Arith.{digits_div, digits_mod}
use lib.Dec.{eqb, ltb, leb}
use lib.ListN.{length, drop}
use Rattle.basics.specs.Folds.{up_to}
use Rattle.basics.proofs.Folds.{every_at}
use Rattle.basics.proofs.Tests.{and_left, and_right, and_both, or-none}
use Rattle.description.specs.Bytes.{letter_r, digit, figure, parts}
use Rattle.description.specs.Symbols.{max_mask, name_length, mask_name, mask_number, mask_at}

figure-digit : (i : ℕ) → i < 10 → digit (figure i) ≡ true
figure-digit i h = and_both (leb 48 (figure i)) (leb (figure i) 57) (le-leb 48 (figure i) (omega arith)) (le-leb (figure i) 57 (omega (arith, h)))

digit_range : (c : ℕ) → digit c ≡ true → (48 ≤ c) × (c ≤ 57)
digit_range c e = (leb-true 48 c (and_left (leb 48 c) (leb c 57) e), leb-true c 57 (and_right (leb 48 c) (leb c 57) e))

pub figure-parts : (i : ℕ) → i < 10 → parts (figure i) ≡ false
unfolding up_to
figure-parts i h = not-true (parts (figure i)) (every_at 10 i (λ i. not (parts (figure i))) refl h)

-- the digit that a byte from 48 on is
pub figure_back : (c : ℕ) → 48 ≤ c → c ≡ figure (c - 48)
figure_back c h = omega (arith, h)

short_name : (k : ℕ) → k < 10 → mask_name k ≡ letter_r ∷ figure k ∷ []
short_name k h = ap {B = List ℕ} (λ b. letter_r ∷ cond b (figure k ∷ []) (figure (k / 10) ∷ figure (k % 10) ∷ [])) (lt-ltb k 10 h)

long_name : (k : ℕ) → 10 ≤ k → mask_name k ≡ letter_r ∷ figure (k / 10) ∷ figure (k % 10) ∷ []
long_name k h = ap {B = List ℕ} (λ b. letter_r ∷ cond b (figure k ∷ []) (figure (k / 10) ∷ figure (k % 10) ∷ [])) (le-ltb k 10 h)

pub name_length_lem : (k : ℕ) → length (mask_name k) ≡ name_length k
name_length_lem k = go (ltb k 10)
  where
    go : (b : Bool) → suc (length (cond b (figure k ∷ []) (figure (k / 10) ∷ figure (k % 10) ∷ []))) ≡ cond b 2 3
    go true = refl
    go false = refl

abbrev pub digit_here : List ℕ → Bool
digit_here [] = false
digit_here (c ∷ l) = digit c

pub name_read : (k : ℕ) (rest : List ℕ) → k ≤ max_mask → digit_here rest ≡ false → mask_at (mask_name k ++ rest) ≡ Some k
name_read k rest h e = go (ltb k 10) refl
  where
    one : (rest : List ℕ) → digit_here rest ≡ false → mask_number (figure k) rest ≡ Some k
    one [] e = let back : figure k - 48 ≡ k = omega arith in ap Some back
    one (j ∷ l) e = let back : figure k - 48 ≡ k = omega arith in rw e (ap Some back)

    go : (b : Bool) → ltb k 10 ≡ b → mask_at (mask_name k ++ rest) ≡ Some k
    go true q =
        let low = ltb-true k 10 q in
        ap (λ w. mask_at (w ++ rest)) (short_name k low) ∙ rw (figure-digit k low) (one rest e)
    go false q =
        let high = ltb-false k 10 q in
        let ones : k % 10 < 10 = mod-lt k (zero-lt-suc 9) in
        let parts = div-add-mod' k 10 in
        let tens : k / 10 < 10 = omega (arith, parts, h) in
        let number : 10 * (figure (k / 10) - 48) + (figure (k % 10) - 48) ≡ k = omega (arith, parts) in
        let first : eqb (figure (k / 10)) 48 ≡ false = ne_eqb (figure (k / 10)) 48 (λ z. omega (arith, parts, ones, high, z)) in
        let small : ltb max_mask k ≡ false = le-ltb max_mask k h in
        ap (λ w. mask_at (w ++ rest)) (long_name k high)
        ∙ rw (figure-digit (k / 10) tens, figure-digit (k % 10) ones, number, first, small) refl

-- a mask's name at the start
pub record NameAt (l : List ℕ) (k : ℕ) : Type 0 where
  pub low : k ≤ max_mask
  pub here : l ≡ mask_name k ++ drop (name_length k) l

module _ (c i : ℕ) (letter : c ≡ letter_r) (first : digit i ≡ true) where
  short_at : (l : List ℕ) → NameAt (c ∷ i ∷ l) (i - 48)
  short_at l =
      let range = digit_range i first in
      let test = lt-ltb (i - 48) 10 (omega (arith, range.0, range.1)) in
      record {
        low = omega (arith, range.1);
        here = rw test (ap₂ {C = List ℕ} (λ x y. x ∷ y ∷ l) letter (figure_back i range.0));
      }

  long_at : (j : ℕ) (l : List ℕ) → digit j ≡ true → (eqb i 48 || ltb max_mask (10 * (i - 48) + (j - 48))) ≡ false
      → NameAt (c ∷ i ∷ j ∷ l) (10 * (i - 48) + (j - 48))
  long_at j l second small =
      let from = (digit_range i first).0 in
      let range = digit_range j second in
      let none = or-none (eqb i 48) (ltb max_mask (10 * (i - 48) + (j - 48))) small in
      let k : ℕ = 10 * (i - 48) + (j - 48) in
      let other : i ≢ 48 = eqb-false i 48 none.0 in
      let test : ltb k 10 ≡ false = le-ltb k 10 (omega (arith, from, other)) in
      let order : k ≡ (i - 48) * 10 + (j - 48) = omega arith in
      let below : j - 48 < 10 = omega (arith, range.1) in
      let tens : i - 48 ≡ k / 10 = sym (ap (λ (x : ℕ). x / 10) order ∙ digits_div (i - 48) below) in
      let ones : j - 48 ≡ k % 10 = sym (ap (λ (x : ℕ). x % 10) order ∙ digits_mod (i - 48) below) in
      let first_byte : i ≡ figure (k / 10) = figure_back i from ∙ ap (λ (x : ℕ). figure x) tens in
      let second-byte : j ≡ figure (k % 10) = figure_back j range.0 ∙ ap (λ (x : ℕ). figure x) ones in
      record {
        low = ltb-false max_mask k none.1;
        here = rw test (cc);
      }

pub read_name : (l : List ℕ) (k : ℕ) → mask_at l ≡ Some k → NameAt l k
read_name [] k e = let z : ◌≡◌ {A = ℕ} 0 1 = cc in absurd (omega (arith, z))
read_name (c ∷ []) k e = let z : ◌≡◌ {A = ℕ} 0 1 = cc in absurd (omega (arith, z))
read_name (c ∷ i ∷ l) k e = go (eqb c letter_r && digit i) refl e
  where
    more : c ≡ letter_r → digit i ≡ true → (l : List ℕ) → mask_number i l ≡ Some k → NameAt (c ∷ i ∷ l) k
    more p q [] e = let number : i - 48 ≡ k = cc in rw number at (short_at c i p q [])
    more p q (j ∷ l) e = two (digit j) refl e
      where
        small : digit j ≡ true → (b : Bool) → (eqb i 48 || ltb max_mask (10 * (i - 48) + (j - 48))) ≡ b
            → cond b None (Some (10 * (i - 48) + (j - 48))) ≡ Some k → NameAt (c ∷ i ∷ j ∷ l) k
        small d true s e = let z : ◌≡◌ {A = ℕ} 0 1 = cc in absurd (omega (arith, z))
        small d false s e =
            let number : 10 * (i - 48) + (j - 48) ≡ k = cc in
            subst (NameAt (c ∷ i ∷ j ∷ l)) number (long_at c i p q j l d s)

        two : (b : Bool) → digit j ≡ b
            → cond b (cond (eqb i 48 || ltb max_mask (10 * (i - 48) + (j - 48))) None (Some (10 * (i - 48) + (j - 48)))) (Some (i - 48)) ≡ Some k
            → NameAt (c ∷ i ∷ j ∷ l) k
        two true d e = small d (eqb i 48 || ltb max_mask (10 * (i - 48) + (j - 48))) refl e
        two false d e = let number : i - 48 ≡ k = cc in subst (NameAt (c ∷ i ∷ j ∷ l)) number (short_at c i p q (j ∷ l))

    go : (b : Bool) → (eqb c letter_r && digit i) ≡ b → cond b (mask_number i l) None ≡ Some k → NameAt (c ∷ i ∷ l) k
    go false q e = let z : ◌≡◌ {A = ℕ} 0 1 = cc in absurd (omega (arith, z))
    go true q e = more (eqb-true c letter_r (and_left (eqb c letter_r) (digit i) q)) (and_right (eqb c letter_r) (digit i) q) l e
