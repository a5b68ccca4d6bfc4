-- `try_reader::each` ends: each case moves on by its head at least.
use Rattle.std.proofs.Common.{◌≤◌, ◌-◌, length}
use Rattle.try_reader.proofs.each.Given as goal

abbrev pub invariant-loop-end : goal.invariant-loop-end
invariant-loop-end g l = (l.at ≤ l.end) × (l.end ≤ length l.cases)

abbrev pub decreases-loop-end : goal.decreases-loop-end
decreases-loop-end g l = length l.cases - l.at
