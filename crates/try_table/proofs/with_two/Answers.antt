-- `try_table::with_two` is safe: its third wire stays within the table.
use Rattle.std.proofs.Common.{arith}
use Rattle.records.proofs.Bytes.{inside-none, inside_more}
use Rattle.try_table.proofs.with_two.Goals as goal

pub set_breaks-requires : goal.set_breaks-requires
set_breaks-requires c =
    inside_more _ _ _ (omega (arith, c.requires.1, c.requires.2))
    (inside_more _ _ _ (omega (arith, c.requires.1, c.requires.3))
    (inside_more _ _ _ (omega (arith, c.requires.1, c.loop-k-test.true)) (inside-none _)))
