-- `coverage::covered_up_to` meets its contract: every pass goes on from where the one before ended, and the last added nothing.
use native.Mathlib.Omega.{arith}
use Rattle.extents.proofs.Extents.{onward_none, onward_join}
use Rattle.coverage.proofs.Coverage.{reach_stop, reach_end}
use Rattle.coverage.proofs.covered_up_to.Goals as goal

pub loop-reach-init : goal.loop-reach-init
loop-reach-init c = onward_none _ _ _

pub returns-then-next-reach : goal.returns-then-next-reach
returns-then-next-reach c = reach_stop _ _ _ _ _ c.loop-reach.invariant c.if-next-reach.true c.pass_over-next.ensures.from_value

pub loop-reach-smaller : goal.loop-reach-smaller
loop-reach-smaller c = omega (arith, c.if-next-reach.false, c.pass_over-next.ensures.onward.rises, c.loop-reach-test.true)

pub loop-reach-preserved : goal.loop-reach-preserved
loop-reach-preserved c = onward_join _ _ _ _ _ c.loop-reach.invariant c.pass_over-next.ensures.onward

pub returns : goal.returns
returns c = reach_end _ _ _ _ c.loop-reach.invariant (omega (arith, c.loop-reach-test.false))
