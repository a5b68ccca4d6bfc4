use Prim.Native.Nat.{◌-◌}
use Rattle.extents.specs.Extents.{Onward}
use Rattle.coverage.proofs.covered_up_to.Given as goal

abbrev pub invariant-loop-reach : goal.invariant-loop-reach
invariant-loop-reach l = Onward l.reports l.size 0 l.reach

abbrev pub decreases-loop-reach : goal.decreases-loop-reach
decreases-loop-reach l = l.all - l.reach
