use Prim.Native.Nat.{◌≤◌}
use mathlib.Core.Path.{◌≡◌}
use mathlib.Core.Bool.{◌&&◌}
use lib.ListN.{drop}
use Rattle.revolving.specs.Order.{rising, below}
use Rattle.revolving.proofs.Rising.{chosen}
use Rattle.revolving.proofs.is_rising.Given as goal

abbrev pub invariant-loop-wire : goal.invariant-loop-wire
invariant-loop-wire l = (l.next ≤ 65536) × ((rising l.set && below l.n l.set) ≡ chosen l.next l.n (drop l.wire-index l.set))
