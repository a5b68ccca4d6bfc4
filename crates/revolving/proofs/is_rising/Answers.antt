-- `revolving::is_rising` meets its contract: the test of the whole list is, before each turn, that of the wires from a place on,
-- of which the first may be no lower than `next`.
use native.Mathlib.Omega.{arith}
use Rattle.revolving.proofs.Rising.{rising_chosen, loop_low, loop_high, loop_next, loop_end}
use Rattle.revolving.proofs.is_rising.Goals as goal

pub loop-wire-init : goal.loop-wire-init
loop-wire-init c = (omega arith, rising_chosen c.args.n c.args.set.now)

pub returns-then-wire-next : goal.returns-then-wire-next
returns-then-wire-next c =
    let l = c.loop-wire in
    loop_low l.next c.args.n c.args.set.now l.wire-index l.invariant.1 (omega arith) (omega arith)

pub returns-then-n-wire : goal.returns-then-n-wire
returns-then-n-wire c =
    let l = c.loop-wire in
    loop_high l.next c.args.n c.args.set.now l.wire-index l.invariant.1 (omega arith) (omega arith)

pub loop-wire-preserved : goal.loop-wire-preserved
loop-wire-preserved c =
    let l = c.loop-wire in (
      omega (arith, c.type_inv.set l.wire-index),
      rw c.from-wire.ensures (loop_next l.next c.args.n c.args.set.now l.wire-index l.invariant.1 (omega arith) (omega arith) (omega arith)),
    )

pub returns : goal.returns
returns c =
    let l = c.loop-wire in
    loop_end l.next c.args.n c.args.set.now l.wire-index l.invariant.1 (omega arith)
