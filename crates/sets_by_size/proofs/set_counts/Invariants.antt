use mathlib.Core.Path.{◌≡◌}
use Rattle.sets_by_size.proofs.Counting.{begun}
use Rattle.sets_by_size.proofs.set_counts.Given as goal

abbrev pub invariant-loop-i : goal.invariant-loop-i
invariant-loop-i l = l.place-items ≡ begun l.wires l.order l.i
