-- `coverage::first_uncovered` meets its contract: before each size all smaller ones are covered.
use native.Mathlib.Omega.{arith}
use Rattle.coverage.proofs.Coverage.{covered_none, covered_more, found-uncovered, none-uncovered}
use Rattle.coverage.proofs.first_uncovered.Goals as goal

pub loop-size-init : goal.loop-size-init
loop-size-init c = (covered_none _ _, omega arith)

pub returns-then-rank-all : goal.returns-then-rank-all
returns-then-rank-all c =
    found-uncovered _ _ _ _ _ _ c.loop-size.invariant.0 c.loop-size.invariant.1 c.loop-size-test.true c.count-all.ensures c.covered_up_to-rank.ensures c.if-rank-all.true

pub loop-size-preserved : goal.loop-size-preserved
loop-size-preserved c =
    (covered_more _ _ _ _ _ c.loop-size.invariant.0 c.count-all.ensures c.covered_up_to-rank.ensures (omega (arith, c.if-rank-all.false)), omega (arith, c.loop-size.invariant.1))

pub returns : goal.returns
returns c = none-uncovered _ _ _ _ c.loop-size.invariant.0 (omega (arith, c.loop-size-test.false))

pub returns-else-rank-all : goal.returns-else-rank-all
returns-else-rank-all c =
    none-uncovered _ _ _ _ (covered_more _ _ _ _ _ c.loop-size.invariant.0 c.count-all.ensures c.covered_up_to-rank.ensures (omega (arith, c.if-rank-all.false))) (omega arith)
