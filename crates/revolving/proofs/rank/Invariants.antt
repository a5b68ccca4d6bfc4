use Rattle.revolving.proofs.Unranking.{Ranked}
use Rattle.revolving.proofs.rank.Given as goal

abbrev pub invariant-loop-i : goal.invariant-loop-i
invariant-loop-i l = Ranked l.set l.i l.r
