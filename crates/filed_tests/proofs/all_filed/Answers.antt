-- `filed_tests::all_filed` meets its contract: before each report none was misfiled.
use native.Mathlib.Omega.{arith}
use Rattle.filed_tests.proofs.Testing.{passed_none, passed_more, one_fails, all_pass}
use Rattle.filed_tests.proofs.all_filed.Goals as goal

pub loop-i-init : goal.loop-i-init
loop-i-init c = passed_none _ _ _ _

pub returns-then-not-is_filed : goal.returns-then-not-is_filed
returns-then-not-is_filed c = one_fails _ _ _ _ _ _ _ (omega arith) c.report_at.ensures c.is_filed.ensures c.if-not-is_filed.true

pub loop-i-preserved : goal.loop-i-preserved
loop-i-preserved c = passed_more _ _ _ _ _ _ _ c.loop-i.invariant c.report_at.ensures c.is_filed.ensures c.if-not-is_filed.false

pub returns : goal.returns
returns c = all_pass _ _ _ _ _ c.loop-i.invariant (omega arith)
