use mathlib.Core.List.{map}
use mathlib.Core.Path.{◌≡◌}
use lib.ListN.{take}
use Rattle.wires.specs.Wires.{total}
use Rattle.records.specs.Layout.{wire_at, terms_of}
use Rattle.records.proofs.sums.sum_of_set.Given as goal

abbrev pub invariant-loop-wire : goal.invariant-loop-wire
invariant-loop-wire l = terms_of l.sum ≡ total (map (wire_at l.table) (take l.wire-index l.set))
