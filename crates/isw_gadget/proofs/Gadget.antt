-- The multiplication of Ishai, Sahai and Wagner as a description: the items of its lines, not their bytes.
--     above, below   what line i has for a share above i, the pair's mask, and for one below, the corrected products
--     part d i j     what it has for share j: nothing for its own
--     line d i       line i
--     isw d          the description; its items have no places yet, and get those of its text by `laid_out`
use Prim.Native.Nat.{ℕ, ◌+◌}
use mathlib.Core.Bool.{cond}
use mathlib.Core.List.{map}
use lib.Dec.{eqb, ltb}
use Rattle.basics.specs.Folds.{fold, up_to}
use Rattle.wires.specs.declared.Symbol.TheVariants.{Product, Mask}
use Rattle.description.specs.Grammar.{Items, none, Description}
use Rattle.description.specs.Printing.{an, bracketed}
use Rattle.description.proofs.Laying.{◌then◌}
use Rattle.isw_gadget.specs.Pairs.{pairs, pair_number}

abbrev pub above : ℕ → ℕ → ℕ → Items
above d i j = an (Mask (pair_number d i j)) none

abbrev pub below : ℕ → ℕ → ℕ → Items
below d i j = bracketed (bracketed (an (Mask (pair_number d j i)) (an (Product j i) none)) (an (Product i j) none)) none

abbrev pub part : ℕ → ℕ → ℕ → Items
part d i j = cond (eqb j i) none (cond (ltb i j) (above d i j) (below d i j))

abbrev pub line : ℕ → ℕ → Items
line d i = an (Product i i) (fold ◌then◌ none (part d i) (up_to (d + 1)))

abbrev pub isw : ℕ → Description
isw d = record { order = d; names = up_to (pairs d); lines = map (line d) (up_to (d + 1)) }
