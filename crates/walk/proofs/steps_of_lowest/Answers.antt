-- `walk::steps_of_lowest` meets its contract: up to the next wire, or down to 0.
use native.Mathlib.Omega.{arith}
use mathlib.Core.Path.{sym}
use borrow.Author.Tests.{eq-eqb, ne_eqb}
use Rattle.walk.proofs.Sliding.{room_even, room-read, below-limit}
use Rattle.walk.proofs.steps_of_lowest.Goals as goal

pub bounds-set-0 : goal.bounds-set-0
bounds-set-0 c = c.requires.0

pub overflow_sub-result : goal.overflow_sub-result
overflow_sub-result c = omega (arith, c.limit.ensures, below-limit c.args.wires c.args.set.now c.requires.0 c.requires.1)

pub overflow_sub-result-then-set-eq1 : goal.overflow_sub-result-then-set-eq1
overflow_sub-result-then-set-eq1 c = omega (arith, c.limit.ensures, below-limit c.args.wires c.args.set.now c.requires.0 c.requires.1)

pub returns-then-set-eq1 : goal.returns-then-set-eq1
returns-then-set-eq1 c = room-read _ _ _ (eq-eqb _ _ c.if-set-eq1.true) c.limit.ensures

pub returns : goal.returns
returns c = sym (room_even _ _ (ne_eqb _ _ c.if-set-eq1.false))
