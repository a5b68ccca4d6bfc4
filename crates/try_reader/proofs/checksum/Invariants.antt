-- `try_reader::checksum` keeps the total below the prime.
use Rattle.std.proofs.Common.{◌<◌}
use Rattle.try_reader.proofs.checksum.Given as goal

abbrev pub invariant-loop-byte : goal.invariant-loop-byte
invariant-loop-byte l = l.total < 4294967291
