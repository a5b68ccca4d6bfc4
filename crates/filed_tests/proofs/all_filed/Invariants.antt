use Rattle.counts.specs.Counts.{binom}
use Rattle.filed_tests.proofs.Testing.{Passed}
use Rattle.filed_tests.proofs.all_filed.Given as goal

abbrev pub invariant-loop-i : goal.invariant-loop-i
invariant-loop-i l = Passed (binom l.wires) l.notion l.order l.reports l.i
