-- `records::sums::is_outer` meets its contract: the byte read is byte 18 of the wire's record.
use Prim.Native.Nat.{ℕ}
use mathlib.Core.Path.{ap}
use lib.Dec.{eqb}
use Rattle.records.proofs.Adding.{outer_byte}
use Rattle.records.proofs.sums.is_outer.Goals as goal

pub returns : goal.returns
returns c = ap (λ (x : ℕ). eqb x 1) (outer_byte _ _ c.requires)
