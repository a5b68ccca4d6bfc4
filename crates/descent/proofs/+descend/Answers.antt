-- The proof of the cycle of calls {descend}: one wire less is to come at each call. Each way round the loop over the carriers has its lemma.
use native.Mathlib.Omega.{arith}
use mathlib.Core.Path.{sym, ◌∙◌}
use Rattle.descent.proofs.Ending.{settled, dropped}
use Rattle.choices.proofs.Settling.{last-masked}
use Rattle.descent.proofs.Turns.{turn_first, turn_shut, turn_masked, turn_deep, turn_last, child, wire_in, wire_small, next_less, pay_few}
use Rattle.descent.proofs.+descend.Goals as goal

pub returns-then-left-eq0 : goal.returns-then-left-eq0
returns-then-left-eq0 t c = settled _ _ _ _ _ _ _ _ c.requires.node _ _ c.if-left-eq0.true c.settle.ensures

pub returns-then-not-is_masked : goal.returns-then-not-is_masked
returns-then-not-is_masked t c = dropped _ _ _ _ _ _ _ _ c.requires.node _ (omega (arith, c.if-left-eq0.false)) c.requires.table_len_bound.2 (sym c.is_masked.ensures ∙ c.if-not-is_masked.true)

pub loop-limit-init : goal.loop-limit-init
loop-limit-init t c = turn_first _ _ _ _ _ _ _ _ _ _ _ _ c.requires.counts.2 c.requires.table_len_bound.0 (omega (arith, c.if-left-eq0.false)) c.rarest-mask.ensures.0 c.rarest-mask.ensures.1 c.requires.node c.highest_below-limit.ensures

pub highest_below-limit-requires-in-loop-limit : goal.highest_below-limit-requires-in-loop-limit
highest_below-limit-requires-in-loop-limit t c = let small = wire_small _ _ _ _ _ _ _ _ _ _ _ _ _ _ c.loop-limit.invariant c.loop-limit-test.true in (c.loop-limit.invariant.real, omega (arith, small))

pub bounds-now-wire : goal.bounds-now-wire
bounds-now-wire t c = wire_small _ _ _ _ _ _ _ _ _ _ _ _ _ _ c.loop-limit.invariant c.loop-limit-test.true

pub with_wire-more-requires : goal.with_wire-more-requires
with_wire-more-requires t c = wire_in _ _ _ _ _ _ _ _ _ _ _ _ _ _ c.loop-limit.invariant c.loop-limit-test.true

pub bounds-now-wire-then-leaves_masks : goal.bounds-now-wire-then-leaves_masks
bounds-now-wire-then-leaves_masks t c = wire_small _ _ _ _ _ _ _ _ _ _ _ _ _ _ c.loop-limit.invariant c.loop-limit-test.true

pub loop-limit-smaller-then-leaves_masks : goal.loop-limit-smaller-then-leaves_masks
loop-limit-smaller-then-leaves_masks t c = next_less _ _ _ _ _ _ _ _ _ _ _ _ _ _ c.loop-limit.invariant c.loop-limit-test.true _ c.highest_below-limit-in-loop-limit.ensures

pub loop-limit-preserved-then-leaves_masks : goal.loop-limit-preserved-then-leaves_masks
loop-limit-preserved-then-leaves_masks t c = let v = last-masked _ _ _ c.leaves_masks.ensures c.if-leaves_masks.true in turn_masked _ _ _ _ _ _ _ _ _ _ _ _ _ _ c.loop-limit.invariant c.loop-limit-test.true _ c.highest_below-limit-in-loop-limit.ensures c.if-now-wire-eq-OPEN.true _ c.with_wire-more.ensures v.0 v.1

pub bounds-now-wire-else-leaves_masks : goal.bounds-now-wire-else-leaves_masks
bounds-now-wire-else-leaves_masks t c = wire_small _ _ _ _ _ _ _ _ _ _ _ _ _ _ c.loop-limit.invariant c.loop-limit-test.true

pub pay-requires : goal.pay-requires
pay-requires t c = wire_in _ _ _ _ _ _ _ _ _ _ _ _ _ _ c.loop-limit.invariant c.loop-limit-test.true

pub overflow_add-paid : goal.overflow_add-paid
overflow_add-paid t c = let few = pay_few _ _ _ _ _ _ _ _ c.loop-limit.invariant.node in record { fits = omega (arith, few, c.requires.table_len_bound.1, c.pay.ensures.1) }

pub descend-least-requires : goal.descend-least-requires
descend-least-requires t c = let some = c.loop-limit.invariant.some in (omega arith, (c.requires.counts, (c.requires.table_len_bound, child _ _ _ _ _ _ _ _ _ _ _ _ _ _ c.loop-limit.invariant c.loop-limit-test.true _ c.highest_below-limit-in-loop-limit.ensures c.if-now-wire-eq-OPEN.true _ c.with_wire-more.ensures _ c.pay.ensures.0)))

pub bounds-now-wire-else-leaves_masks-2 : goal.bounds-now-wire-else-leaves_masks-2
bounds-now-wire-else-leaves_masks-2 t c = wire_small _ _ _ _ _ _ _ _ _ _ _ _ _ _ c.loop-limit.invariant c.loop-limit-test.true

pub loop-limit-smaller-else-leaves_masks : goal.loop-limit-smaller-else-leaves_masks
loop-limit-smaller-else-leaves_masks t c = next_less _ _ _ _ _ _ _ _ _ _ _ _ _ _ c.loop-limit.invariant c.loop-limit-test.true _ c.highest_below-limit-in-loop-limit.ensures

pub loop-limit-preserved-else-leaves_masks : goal.loop-limit-preserved-else-leaves_masks
loop-limit-preserved-else-leaves_masks t c = turn_deep _ _ _ _ _ _ _ _ _ _ _ _ _ _ c.loop-limit.invariant c.loop-limit-test.true _ c.highest_below-limit-in-loop-limit.ensures c.if-now-wire-eq-OPEN.true _ c.descend-least.ensures

pub loop-limit-smaller : goal.loop-limit-smaller
loop-limit-smaller t c = next_less _ _ _ _ _ _ _ _ _ _ _ _ _ _ c.loop-limit.invariant c.loop-limit-test.true _ c.highest_below-limit-in-loop-limit.ensures

pub loop-limit-preserved : goal.loop-limit-preserved
loop-limit-preserved t c = turn_shut _ _ _ _ _ _ _ _ _ _ _ _ _ _ c.loop-limit.invariant c.loop-limit-test.true _ c.highest_below-limit-in-loop-limit.ensures c.if-now-wire-eq-OPEN.false

pub returns : goal.returns
returns t c = turn_last _ _ _ _ _ _ _ _ _ _ _ _ _ _ c.loop-limit.invariant c.loop-limit-test.false
