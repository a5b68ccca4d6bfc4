-- Sets of a table's wires, and the part of a buffer that holds one.
--     below-inside, is-set-inside     a set of a table's wires is inside the table
--     part                            the first wires of a buffer, as the code cuts it
use Prim.Native.Nat.{ℕ, ◌-◌}
use native.Mathlib.Omega.{arith}
use mathlib.Core.Path.{◌≡◌, refl, ◌∙◌, ap}
use mathlib.Core.Bool.{Bool, true, ◌&&◌}
use mathlib.Core.List.{List, [], ◌∷◌}
use lib.Dec.{eqb, ltb}
use lib.ListN.{length, take}
use Rattle.basics.specs.Folds.{every}
use Rattle.basics.proofs.Tests.{and_right}
use Rattle.records.specs.Layout.{wire_count, inside}
use Rattle.revolving.specs.Order.{rising, below, is_set}

pub below-inside : (table s : List ℕ) → below (wire_count table) s ≡ true → inside table s ≡ true
unfolding inside
below-inside table s e = all s ∙ e
  where
    all : (s : List ℕ) → every (λ wire. ltb wire (wire_count table)) s ≡ below (wire_count table) s
    all [] = refl
    all (x ∷ s) = ap (λ (b : Bool). ltb x (wire_count table) && b) (all s)

pub is-set-inside : (table : List ℕ) (k : ℕ) (s : List ℕ) → is_set (wire_count table) k s ≡ true → inside table s ≡ true
is-set-inside table k s e =
    below-inside table s
    (and_right (rising s) (below (wire_count table) s) (and_right (eqb (length s) k) (rising s && below (wire_count table) s) e))

-- the first wires of a buffer, as the code cuts it
pub part : (size : ℕ) (l : List ℕ) → take (size - 0) l ≡ take size l
part size l = let same : size - 0 ≡ size = omega arith in ap (λ (i : ℕ). take i l) same
