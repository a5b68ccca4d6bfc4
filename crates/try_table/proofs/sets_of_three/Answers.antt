-- `try_table::sets_of_three` is safe: its first wire stays within the table.
use Rattle.std.proofs.Common.{arith}
use Rattle.records.proofs.Bytes.{inside-none, inside_more}
use Rattle.try_table.proofs.sets_of_three.Goals as goal

pub set_breaks-requires : goal.set_breaks-requires
set_breaks-requires c = inside_more _ _ _ (omega (arith, c.requires.1, c.loop-i-test.true)) (inside-none _)
