-- `walk::climb` meets its contract: before each turn the wires up to the place below are blocked in their direction.
use Prim.Native.Nat.{◌+◌}
use native.Mathlib.Omega.{arith}
use Rattle.walk.proofs.Stepping.{climbing_start, turn_rises, turn_falls, turn_high, turn_low, never_last}
use Rattle.walk.proofs.Sets.{wire_below, some_wire}
use Rattle.walk.proofs.climb.Goals as goal
use Rattle.walk.proofs.climb.Goals.{then-rising+else-place-wire, else-rising+else-wire-limit}

pub overflow_sub-below-end : goal.overflow_sub-below-end
overflow_sub-below-end c = omega (arith, some_wire _ _ c.requires.1)

pub loop-below-init : goal.loop-below-init
loop-below-init c = climbing_start _ _ c.requires.1 c.requires.2

pub overflow_cast-set : goal.overflow_cast-set
overflow_cast-set c = omega (arith, c.if-place-wire.true, wire_below _ _ (c.loop-below.below + 1) c.loop-below.invariant.next (omega arith), c.requires.0)

pub returns-then-place-wire : goal.returns-then-place-wire
returns-then-place-wire c = let all = turn_falls _ _ _ _ _ c.loop-below.invariant (omega arith) c.if-rising.true c.if-place-wire.true in record { set_after = all.0; exchanged = all.1 }

pub overflow_cast-set-then-wire-limit : goal.overflow_cast-set-then-wire-limit
overflow_cast-set-then-wire-limit c = omega (arith, wire_below _ _ (c.loop-below.below + 1) c.loop-below.invariant.next (omega arith), c.requires.0)

pub overflow_cast-set-then-wire-limit-2 : goal.overflow_cast-set-then-wire-limit-2
overflow_cast-set-then-wire-limit-2 c = omega (arith, wire_below _ _ (c.loop-below.below + 1) c.loop-below.invariant.next (omega arith), c.requires.0)

pub returns-then-wire-limit : goal.returns-then-wire-limit
returns-then-wire-limit c = let all = turn_rises _ _ _ _ _ c.loop-below.invariant (omega arith) c.if-rising.false _ c.limit.ensures c.if-wire-limit.true in record { set_after = all.0; exchanged = all.1 }

pub loop-below-preserved : goal.loop-below-preserved
loop-below-preserved c =
    let l = c.loop-below.invariant in
    elim c.if-rising.branch [
      | then-rising+else-place-wire w ↦ turn_low _ _ _ _ _ l (omega arith) w.if-rising.true w.if-place-wire.false
      | else-rising+else-wire-limit w ↦ turn_high _ _ _ _ _ l (omega arith) w.if-rising.false _ w.limit.ensures w.if-wire-limit.false
    ]

pub unreachable-requires : goal.unreachable-requires
unreachable-requires c = absurd (never_last _ _ _ _ _ c.loop-below.invariant (omega arith))
