use Prim.Native.Nat.{◌≤◌}
use mathlib.Core.List.{map}
use mathlib.Core.Path.{◌≡◌}
use lib.ListN.{take}
use Rattle.wires.specs.Wires.{allowed}
use Rattle.records.specs.Layout.{wire_at}
use Rattle.breaking.proofs.payers.Given as goal

abbrev pub invariant-loop-wire : goal.invariant-loop-wire
invariant-loop-wire l = (l.count ≤ l.wire-index) × (l.count ≡ allowed l.notion (map (wire_at l.table) (take l.wire-index l.set)))
