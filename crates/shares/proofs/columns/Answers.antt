-- `shares::columns` meets its contract: eight bits 8 apart are a column.
use native.Mathlib.Nat.{mod-lt, zero-lt-suc}
use Rattle.shares.proofs.Shares.{columns_bits}
use Rattle.shares.proofs.columns.Goals as goal

pub returns : goal.returns
returns c = (mod-lt c.gather.result (zero-lt-suc 255), columns_bits _ _ c.gather.ensures)
