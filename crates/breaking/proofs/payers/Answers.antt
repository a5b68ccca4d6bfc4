-- `breaking::payers` meets its contract: after each wire the count is that of those that pay among them.
use Prim.Native.Nat.{zero-le}
use native.Mathlib.Omega.{arith}
use mathlib.Core.Path.{refl}
use Rattle.records.proofs.Adding.{set-inside}
use Rattle.breaking.proofs.Paying.{payers_more, whole-count}
use Rattle.breaking.proofs.payers.Goals as goal

pub loop-wire-init : goal.loop-wire-init
loop-wire-init c = (zero-le, refl)

pub pay-count-requires : goal.pay-count-requires
pay-count-requires c = rw c.from.ensures (set-inside _ _ _ c.requires (omega arith))

pub loop-wire-preserved : goal.loop-wire-preserved
loop-wire-preserved c = (
  omega (arith, c.pay-count.ensures.1, c.loop-wire.invariant.0),
  payers_more c.args.notion _ _ _ _ _ (omega arith) c.loop-wire.invariant.1 (rw c.from.ensures at c.pay-count.ensures.0),
)

pub returns : goal.returns
returns c = whole-count c.args.notion _ _ _ _ (omega arith) c.loop-wire.invariant.1
