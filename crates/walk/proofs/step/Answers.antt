-- `walk::step` meets its contract: the lowest wire moves, or is blocked.
use mathlib.Core.Path.{refl}
use Rattle.walk.proofs.Sets.{some_wire}
use Rattle.walk.proofs.Sliding.{more_room, no_room}
use Rattle.walk.proofs.step.Goals as goal

pub steps_of_lowest-requires : goal.steps_of_lowest-requires
steps_of_lowest-requires c = (some_wire _ _ c.requires.1, c.requires.1.is-set)

pub bounds-set-0 : goal.bounds-set-0
bounds-set-0 c = some_wire _ _ c.requires.1

pub slide-enters-requires : goal.slide-enters-requires
slide-enters-requires c = (c.requires.0, c.requires.1, refl, more_room _ _ _ c.steps_of_lowest.ensures c.if-steps_of_lowest-gt0.true)

pub returns-then-steps_of_lowest-gt0 : goal.returns-then-steps_of_lowest-gt0
returns-then-steps_of_lowest-gt0 c = record { set_after = c.slide-enters.ensures.set_after; exchanged = c.slide-enters.ensures.exchanged }

pub climb-requires : goal.climb-requires
climb-requires c = (c.requires.0, c.requires.1, no_room _ _ c.requires.1 (some_wire _ _ c.requires.1) _ c.steps_of_lowest.ensures c.if-steps_of_lowest-gt0.false)
