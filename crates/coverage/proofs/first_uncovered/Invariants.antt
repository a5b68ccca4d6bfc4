use Prim.Native.Nat.{◌+◌, ◌-◌, ◌≤◌}
use Rattle.coverage.proofs.Coverage.{Covered}
use Rattle.coverage.proofs.first_uncovered.Given as goal

abbrev pub invariant-loop-size : goal.invariant-loop-size
invariant-loop-size l = Covered l.reports l.wires l.size × (1 ≤ l.size)

abbrev pub decreases-loop-size : goal.decreases-loop-size
decreases-loop-size l = l.order + 1 - l.size
