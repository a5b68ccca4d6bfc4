-- Runs of bytes that are refused as a mask that is not declared.
--     undeclared_exactly     a run of bytes is refused so exactly when it is the name of one
use Rattle.std.specs.Prelude.{Option, Some, None, Result, Ok, Err}
use Prim.Native.Nat.{ℕ, ◌≤◌}
use native.Mathlib.Omega.{arith}
use mathlib.Core.Path.{◌≡◌, refl, sym, ◌∙◌, ap}
use mathlib.Core.Bool.{Bool, true, false, cond, ◌&&◌}
use mathlib.Core.List.{List, [], ◌∷◌, ◌++◌, append-nil}
use mathlib.Core.Logic.{◌↔◌}
use borrow.Author.Tests.{eqb-true, eq-eqb}
use lib.Dec.{eqb}
use lib.ListN.{length, drop}
use lib.Seq.{drop-length}
use Rattle.records.specs.Words.{bit}
use Rattle.description.specs.Bytes.{letter_s, letter_a, letter_b}
use Rattle.description.specs.Symbols.{max_mask, share_of, name_length, mask_name, mask_at, share_digit, product_read, share_read, named_read, symbol_read}
use Rattle.description.specs.Grammar.{member}
use Rattle.wires.specs.declared.Symbol.{Symbol}
use Rattle.wires.specs.declared.Symbol.TheVariants.{Product, ShareA, ShareB, Mask}
use Rattle.description.specs.declared.SymbolFault.{SymbolFault}
use Rattle.description.specs.declared.SymbolFault.TheVariants.{NoSuch, NotDeclared}
use Rattle.description.proofs.Names.{name_length_lem, name_read, read_name}
use Rattle.description.proofs.Spelling.{Declares}

-- the name of a mask that is not declared
abbrev Undeclared : List ℕ → List ℕ → Type 0
Undeclared names w = (k : ℕ) × ((k ≤ max_mask) × (member k names ≡ false) × (w ≡ mask_name k))

-- a symbol that is known or not is no mask that is not declared
judged : (b : Bool) (s : Symbol) → cond b (Ok s) (Err NoSuch) ≡ Err NotDeclared → ⊥
judged true s e = let z : ◌≡◌ {A = ℕ} 0 1 = cc in omega (arith, z)
judged false s e = let z : ◌≡◌ {A = ℕ} 0 1 = cc in omega (arith, z)

-- what begins with the letter of a product, or of a share
no_product : (n : ℕ) (w : List ℕ) → product_read n w ≡ Err NotDeclared → ⊥
no_product n [] e = let z : ◌≡◌ {A = ℕ} 0 1 = cc in omega (arith, z)
no_product n (i ∷ []) e = let z : ◌≡◌ {A = ℕ} 0 1 = cc in omega (arith, z)
no_product n (i ∷ j ∷ []) e = judged (share_digit n i && share_digit n j) (Product (share_of i) (share_of j)) e
no_product n (i ∷ j ∷ k ∷ w) e = let z : ◌≡◌ {A = ℕ} 0 1 = cc in omega (arith, z)

no_share : (share : ℕ → Symbol) (n : ℕ) (w : List ℕ) → share_read share n w ≡ Err NotDeclared → ⊥
no_share share n [] e = let z : ◌≡◌ {A = ℕ} 0 1 = cc in omega (arith, z)
no_share share n (i ∷ []) e = judged (share_digit n i) (share (share_of i)) e
no_share share n (i ∷ j ∷ w) e = let z : ◌≡◌ {A = ℕ} 0 1 = cc in omega (arith, z)

module _ (n declared : ℕ) (names : List ℕ) (d : Declares declared names) where
  name_undeclared : (w : List ℕ) (m : Option ℕ) → mask_at w ≡ m → named_read declared (length w) m ≡ Err NotDeclared → Undeclared names w
  name_undeclared w None a e = let z : ◌≡◌ {A = ℕ} 0 1 = cc in absurd (omega (arith, z))
  name_undeclared w (Some k) a e = sized (eqb (length w) (name_length k)) refl e
    where
      bitted : length w ≡ name_length k → (b : Bool) → bit declared k ≡ b → cond b (Ok (Mask k)) (Err NotDeclared) ≡ Err NotDeclared → Undeclared names w
      bitted q true c e = let z : ◌≡◌ {A = ℕ} 0 1 = cc in absurd (omega (arith, z))
      bitted q false c e =
          let at = read_name w k a in
          let all : w ≡ mask_name k =
          at.here
          ∙ ap (λ l. mask_name k ++ l) (ap (λ (x : ℕ). drop x w) (sym q) ∙ drop-length w) ∙ append-nil (mask_name k) in
          (k, (at.low, sym (d.bits k) ∙ c, all))

      sized : (b : Bool) → eqb (length w) (name_length k) ≡ b → cond b (cond (bit declared k) (Ok (Mask k)) (Err NotDeclared)) (Err NoSuch) ≡ Err NotDeclared
          → Undeclared names w
      sized false q e = let z : ◌≡◌ {A = ℕ} 0 1 = cc in absurd (omega (arith, z))
      sized true q e = bitted (eqb-true (length w) (name_length k) q) (bit declared k) refl e

  read_undeclared : (w : List ℕ) → symbol_read n declared w ≡ Err NotDeclared → Undeclared names w
  read_undeclared [] e = let z : ◌≡◌ {A = ℕ} 0 1 = cc in absurd (omega (arith, z))
  read_undeclared (c ∷ w) e = product (eqb c letter_s) e
    where
      other : Result Symbol SymbolFault
      other = named_read declared (length (c ∷ w)) (mask_at (c ∷ w))

      b_share : (b : Bool) → cond b (share_read ShareB n w) other ≡ Err NotDeclared → Undeclared names (c ∷ w)
      b_share true e = absurd (no_share ShareB n w e)
      b_share false e = name_undeclared (c ∷ w) (mask_at (c ∷ w)) refl e

      a_share : (b : Bool) → cond b (share_read ShareA n w) (cond (eqb c letter_b) (share_read ShareB n w) other) ≡ Err NotDeclared
          → Undeclared names (c ∷ w)
      a_share true e = absurd (no_share ShareA n w e)
      a_share false e = b_share (eqb c letter_b) e

      product : (b : Bool)
          → cond b (product_read n w) (cond (eqb c letter_a) (share_read ShareA n w) (cond (eqb c letter_b) (share_read ShareB n w) other)) ≡ Err NotDeclared
          → Undeclared names (c ∷ w)
      product true e = absurd (no_product n w e)
      product false e = a_share (eqb c letter_a) e

  undeclared_read : (w : List ℕ) → Undeclared names w → symbol_read n declared w ≡ Err NotDeclared
  undeclared_read w u =
      let k = u.0 in
      let name : mask_at (mask_name k) ≡ Some k = ap mask_at (sym (append-nil (mask_name k))) ∙ name_read k [] u.1.0 refl in
      ap (symbol_read n declared) u.1.2 ∙ ap (named_read declared (length (mask_name k))) name
      ∙ rw (eq-eqb (length (mask_name k)) (name_length k) (name_length_lem k), d.bits k, u.1.1) refl

-- with `known_read` and `read_Known`: which of its three answers every run of bytes gets
pub undeclared_exactly : (n declared : ℕ) (names w : List ℕ) → Declares declared names
    → (symbol_read n declared w ≡ Err NotDeclared) ↔ ((k : ℕ) × ((k ≤ max_mask) × (member k names ≡ false) × (w ≡ mask_name k)))
undeclared_exactly n declared names w d = (read_undeclared n declared names d w, undeclared_read n declared names d w)
