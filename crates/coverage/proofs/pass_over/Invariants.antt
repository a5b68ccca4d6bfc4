use Rattle.coverage.proofs.Coverage.{Tried}
use Rattle.coverage.proofs.pass_over.Given as goal

abbrev pub invariant-loop-turn : goal.invariant-loop-turn
invariant-loop-turn l = Tried l.reports l.size l.from l.backward l.turn l.reach
