use lib.ListN.{length}
use Rattle.choices.specs.Marks.{is_chosen}
use Rattle.choices.proofs.Gathering.{Gathered}
use Rattle.choices.proofs.gather.Given as goal

abbrev pub invariant-loop-wire : goal.invariant-loop-wire
invariant-loop-wire l = Gathered (is_chosen l.marks) (length l.initial.set) l.set l.size l.wire
