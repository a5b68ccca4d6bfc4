use Prim.Native.Nat.{◌-◌, ◌<◌}
use mathlib.Core.Path.{◌≡◌}
use lib.ListN.{length}
use Rattle.runs.proofs.Passing.{Passing}
use Rattle.runs.proofs.pass_over.Given as goal

abbrev pub invariant-loop-rank : goal.invariant-loop-rank
invariant-loop-rank l =
    Passing l.notion l.table l.wires l.size l.from l.to l.last l.probes l.rank l.lowest l.tally × (length l.probes ≡ length l.initial.probes) × (l.last < l.to)

abbrev pub decreases-loop-rank : goal.decreases-loop-rank
decreases-loop-rank l = l.last - l.rank
