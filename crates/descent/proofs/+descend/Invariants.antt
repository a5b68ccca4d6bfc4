-- The proof of the cycle of calls {descend}: one wire less is to come at each call. Each way round the loop over the carriers has its lemma.
use Rattle.descent.proofs.Turns.{Descending}
use Rattle.descent.proofs.+descend.Given as goal

abbrev pub decreases-descend : goal.decreases-descend
decreases-descend l = l.left

abbrev pub invariant-loop-limit : goal.invariant-loop-limit
invariant-loop-limit l =
    Descending l.notion l.table l.carriers l.size l.top l.sum l.paid l.left l.mask l.initial.now l.found l.now l.least l.limit

abbrev pub decreases-loop-limit : goal.decreases-loop-limit
decreases-loop-limit l = l.limit
