-- `try_cases::read_full` reads no more than the buffer has room for.
use Rattle.std.proofs.Common.{◌≤◌, length}
use Rattle.try_cases.proofs.read_full.Given as goal

abbrev pub invariant-loop : goal.invariant-loop
invariant-loop g l = l.end ≤ length l.buffer
