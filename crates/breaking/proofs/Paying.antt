-- How many wires of a set pay for a share.
--     ni-pays, sni-pays    what a wire pays under NI, and under SNI
--     payers_more          how many wires pay, with one wire more of a set
--     whole-count          all wires of the set
--     at_most              no more wires pay than there are
use Prim.Native.Nat.{ℕ, ◌+◌, ◌≤◌, ◌<◌}
use native.Mathlib.Nat.{zero-add, add-zero, add_assoc}
use native.Mathlib.Omega.{arith}
use mathlib.Core.Path.{◌≡◌, sym, ◌∙◌, ap, ap₂}
use mathlib.Core.Bool.{Bool, true, false, not}
use mathlib.Core.List.{List, [], ◌∷◌, map}
use lib.ListN.{length, take, get_or}
use lib.Seq.{take_all}
use Rattle.basics.specs.Folds.{one_if}
use Rattle.basics.proofs.Folds.{fold_more}
use Rattle.wires.specs.declared.Notion.{Notion}
use Rattle.wires.specs.declared.Notion.TheVariants.{Ni, Sni}
use Rattle.wires.specs.Wires.{Wire, pays, allowed}
use Rattle.records.specs.Layout.{wire_at}

pub ni-pays : (notion : Notion) (w : Wire) → notion ≡ Ni → 1 ≡ one_if (pays notion w)
ni-pays notion w e = ap (λ n. one_if (pays n w)) (sym e)

pub sni-pays : (notion : Notion) (w : Wire) (outer : Bool) → notion ≡ Sni → outer ≡ w.outer → one_if (not outer) ≡ one_if (pays notion w)
sni-pays notion w outer e o = ap (λ (b : Bool). one_if (not b)) o ∙ ap (λ n. one_if (pays n w)) (sym e)

pub payers_more : (notion : Notion) (table set : List ℕ) (i k p : ℕ) → i < length set → k ≡ allowed notion (map (wire_at table) (take i set))
    → p ≡ one_if (pays notion (wire_at table (get_or set i 0))) → k + p ≡ allowed notion (map (wire_at table) (take (i + 1) set))
payers_more notion table set i k p h e paid =
    ap₂ (λ (m q : ℕ). m + q) e paid
    ∙ sym (fold_more ◌+◌ 0 zero-add add-zero add_assoc (λ w. one_if (pays notion w)) (wire_at table) set i 0 h)

pub whole-count : (notion : Notion) (table set : List ℕ) (i k : ℕ) → length set ≤ i → k ≡ allowed notion (map (wire_at table) (take i set))
    → k ≡ allowed notion (map (wire_at table) set)
whole-count notion table set i k h e = e ∙ ap (λ l. allowed notion (map (wire_at table) l)) (take_all i set h)

pub at_most : (notion : Notion) (l : List Wire) → allowed notion l ≤ length l
at_most notion [] = omega arith
at_most notion (w ∷ l) = omega (arith, at_most notion l, one (pays notion w))
  where
    one : (b : Bool) → one_if b ≤ 1
    one true = omega arith
    one false = omega arith
