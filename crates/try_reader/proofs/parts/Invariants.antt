-- `try_reader::parts` keeps the total below the prime.
use Rattle.std.proofs.Common.{◌<◌}
use Rattle.try_reader.proofs.parts.Given as goal

abbrev pub invariant-loop-wire : goal.invariant-loop-wire
invariant-loop-wire g l = l.total < 4294967291
