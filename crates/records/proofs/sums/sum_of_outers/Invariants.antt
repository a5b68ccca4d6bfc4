use mathlib.Core.List.{map}
use mathlib.Core.Path.{◌≡◌}
use Rattle.basics.specs.Folds.{up_to}
use Rattle.wires.specs.Function.{outers}
use Rattle.wires.specs.Wires.{total}
use Rattle.records.specs.Layout.{wire_at, terms_of}
use Rattle.records.proofs.sums.sum_of_outers.Given as goal

abbrev pub invariant-loop-wire : goal.invariant-loop-wire
invariant-loop-wire l = terms_of l.sum ≡ total (outers (map (wire_at l.table) (up_to l.wire)))
