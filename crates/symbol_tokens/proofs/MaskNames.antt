-- A mask's name at the start of a run of bytes: r and a number 0 to 63 without leading zeros.
--     Within, name_within              a name's number is one of a mask, and its bytes are there
--     is_declared, not_declared        a name and nothing after it, of a declared mask, of one that is not
use Rattle.std.specs.Prelude.{Some, None, Ok, Err}
use Prim.Native.Nat.{ℕ, ◌+◌, ◌*◌, ◌-◌, ◌/◌, ◌%◌, ◌^◌, ◌≤◌, ◌<◌}
use native.Mathlib.Omega.{arith}
use mathlib.Core.Path.{◌≡◌, refl, ◌∙◌, ap}
use mathlib.Core.Bool.{Bool, true, false, cond, ◌&&◌, ◌||◌}
use mathlib.Core.List.{List, [], ◌∷◌}
use borrow.Author.Tests.{eq-eqb, ne_eqb, lt-ltb, leb-true, ltb-false}
use lib.Dec.{eqb, ltb, leb}
use lib.ListN.{length}
use Rattle.limits.specs.Limits.{max_masks}
use Rattle.basics.proofs.Tests.{and_right, or-none}
use Rattle.records.specs.Words.{bit}
use Rattle.description.specs.Bytes.{digit}
use Rattle.description.specs.Symbols.{max_mask, mask_number, mask_at, name_length, named_read}
use Rattle.wires.specs.declared.Symbol.TheVariants.{Mask}
use Rattle.description.specs.declared.SymbolFault.TheVariants.{NotDeclared}

pub record Within (l : List ℕ) (k : ℕ) : Type 0 where
  pub below : k < max_masks
  pub fits : name_length k ≤ length l

small : (k i : ℕ) (l : List ℕ) → 2 ≤ length l → digit i ≡ true → Some (i - 48) ≡ Some k → Within l k
small k i l h d e =
    let v : i - 48 ≡ k = cc in
    let top = leb-true i 57 (and_right (leb 48 i) (leb i 57) d) in
    record { below = omega arith; fits = rw (lt-ltb k 10 (omega arith)) h }

longest : (k : ℕ) → name_length k ≤ 3
longest k = go (ltb k 10)
  where
    go : (b : Bool) → cond {A = ℕ} b 2 3 ≤ 3
    go true = omega arith
    go false = omega arith

pub name_within : (l : List ℕ) (k : ℕ) → mask_at l ≡ Some k → Within l k
name_within [] k e = let z : ◌≡◌ {A = ℕ} 0 1 = cc in absurd (omega (arith, z))
name_within (c ∷ []) k e = let z : ◌≡◌ {A = ℕ} 0 1 = cc in absurd (omega (arith, z))
name_within (c ∷ i ∷ l) k e = go (eqb c 114 && digit i) refl e
  where
    number : (l : List ℕ) → digit i ≡ true → mask_number i l ≡ Some k → Within (c ∷ i ∷ l) k
    number [] d e = small k i (c ∷ i ∷ []) (omega arith) d e
    number (j ∷ l) d e = second (digit j) refl e
      where
        second : (b : Bool) → digit j ≡ b
            → cond b (cond (eqb i 48 || ltb max_mask (10 * (i - 48) + (j - 48))) None (Some (10 * (i - 48) + (j - 48)))) (Some (i - 48)) ≡ Some k
            → Within (c ∷ i ∷ j ∷ l) k
        second false t e = small k i (c ∷ i ∷ j ∷ l) (omega arith) d e
        second true t e = high (eqb i 48 || ltb max_mask (10 * (i - 48) + (j - 48))) refl e
          where
            high : (b : Bool) → (eqb i 48 || ltb max_mask (10 * (i - 48) + (j - 48))) ≡ b
                → cond b None (Some (10 * (i - 48) + (j - 48))) ≡ Some k → Within (c ∷ i ∷ j ∷ l) k
            high true t e = let z : ◌≡◌ {A = ℕ} 0 1 = cc in absurd (omega (arith, z))
            high false t e =
                let v : 10 * (i - 48) + (j - 48) ≡ k = cc in
                let top = ltb-false max_mask (10 * (i - 48) + (j - 48)) (or-none (eqb i 48) (ltb max_mask (10 * (i - 48) + (j - 48))) t).1 in
                record { below = omega arith; fits = omega (arith, longest k) }

    go : (b : Bool) → (eqb c 114 && digit i) ≡ b → cond b (mask_number i l) None ≡ Some k → Within (c ∷ i ∷ l) k
    go false t e = let z : ◌≡◌ {A = ℕ} 0 1 = cc in absurd (omega (arith, z))
    go true t e = number l (and_right (eqb c 114) (digit i) t) e

-- ---- a name that is a whole symbol

module _ (l : List ℕ) (d k size : ℕ) (e : mask_at l ≡ Some k) (v : size ≡ name_length k) (whole : length l ≡ size) where
  pub is_declared : d / 2 ^ k % 2 ≡ 1 → named_read d (length l) (mask_at l) ≡ Ok (Mask k)
  unfolding bit
  is_declared b = ap (named_read d (length l)) e ∙ simp (eq-eqb (length l) (name_length k) (whole ∙ v), eq-eqb (d / 2 ^ k % 2) 1 b)

  pub not_declared : (d / 2 ^ k % 2 ≡ 1 → ⊥) → named_read d (length l) (mask_at l) ≡ Err NotDeclared
  unfolding bit
  not_declared b = ap (named_read d (length l)) e ∙ simp (eq-eqb (length l) (name_length k) (whole ∙ v), ne_eqb (d / 2 ^ k % 2) 1 b)
