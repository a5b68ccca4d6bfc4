use Rattle.walk.proofs.Stepping.{Climbing}
use Rattle.walk.proofs.climb.Given as goal

abbrev pub invariant-loop-below : goal.invariant-loop-below
invariant-loop-below l = Climbing l.wires l.initial.set l.set l.rising l.below
