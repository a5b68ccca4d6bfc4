-- `shares::rows` meets its contract: of the lowest bits of the rows, taken 7 apart, the i-th alone reaches place i.
use native.Mathlib.Nat.{mod-lt, zero-lt-suc}
use Rattle.shares.proofs.Shares.{rows_bits}
use Rattle.shares.proofs.rows.Goals as goal

pub returns : goal.returns
returns c = (mod-lt c.gather.result (zero-lt-suc 255), rows_bits _ _ _ c.gather-lowest.ensures c.gather.ensures)
