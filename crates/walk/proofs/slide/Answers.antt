-- `walk::slide` meets its contract: the lowest wire moves by one.
use native.Mathlib.Omega.{arith}
use borrow.Author.Tests.{eq-eqb, ne_eqb}
use Rattle.walk.proofs.Sets.{some_wire, wire_below}
use Rattle.walk.proofs.Sliding.{room_even, slid_up, slid_down}
use Rattle.walk.proofs.slide.Goals as goal

pub overflow_add-set : goal.overflow_add-set
overflow_add-set c = omega (arith, wire_below _ _ 0 c.requires.1 (some_wire _ _ c.requires.1), c.requires.0, c.requires.2)

pub overflow_cast-set : goal.overflow_cast-set
overflow_cast-set c = omega (arith, wire_below _ _ 0 c.requires.1 (some_wire _ _ c.requires.1), c.requires.0, c.requires.2)

pub bounds-set-0 : goal.bounds-set-0
bounds-set-0 c = some_wire _ _ c.requires.1

pub overflow_add-result : goal.overflow_add-result
overflow_add-result c = omega (arith, wire_below _ _ 0 c.requires.1 (some_wire _ _ c.requires.1), c.requires.0, c.requires.2)

pub returns-then-set-eq1 : goal.returns-then-set-eq1
returns-then-set-eq1 c = let all = slid_up _ _ c.requires.1 (some_wire _ _ c.requires.1) (eq-eqb _ _ c.if-set-eq1.true) _ c.requires.2 c.requires.3 in record { set_after = all.0; exchanged = all.1.0; value = all.1.1 }

pub overflow_sub-set : goal.overflow_sub-set
overflow_sub-set c = omega (arith, room_even c.args.wires c.args.set.now (ne_eqb _ _ c.if-set-eq1.false), c.requires.2, c.requires.3)

pub overflow_cast-set-2 : goal.overflow_cast-set-2
overflow_cast-set-2 c = omega (arith, wire_below _ _ 0 c.requires.1 (some_wire _ _ c.requires.1), c.requires.0, c.requires.2)

pub bounds-set-0-2 : goal.bounds-set-0-2
bounds-set-0-2 c = some_wire _ _ c.requires.1

pub overflow_sub-result : goal.overflow_sub-result
overflow_sub-result c = omega (arith, room_even c.args.wires c.args.set.now (ne_eqb _ _ c.if-set-eq1.false), c.requires.2, c.requires.3)

pub returns : goal.returns
returns c = let all = slid_down _ _ c.requires.1 (some_wire _ _ c.requires.1) (ne_eqb _ _ c.if-set-eq1.false) _ c.requires.2 c.requires.3 in record { set_after = all.0; exchanged = all.1.0; value = all.1.1 }
