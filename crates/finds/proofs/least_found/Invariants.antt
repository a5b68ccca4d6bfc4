use Rattle.finds.proofs.Least.{Least}
use Rattle.finds.proofs.least_found.Given as goal

abbrev pub invariant-loop-i : goal.invariant-loop-i
invariant-loop-i l = Least l.reports l.i l.least
