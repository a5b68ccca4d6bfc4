use Rattle.extents.specs.Extents.{Onward}
use Rattle.extents.proofs.through.Given as goal

abbrev pub invariant-loop-kept : goal.invariant-loop-kept
invariant-loop-kept l = Onward l.reports l.size l.from l.reach
