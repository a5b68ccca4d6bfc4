-- `finds::least_found` meets its contract: before each report the place is the first of those before it.
use native.Mathlib.Omega.{arith}
use mathlib.Core.Path.{sym, subst}
use Rattle.finds.proofs.Least.{Least, least_none, least_left, least_taken, least_end}
use Rattle.finds.proofs.least_found.Goals as goal
use Rattle.finds.proofs.least_found.Goals.{then-comes_first, else-comes_first}

pub loop-i-init : goal.loop-i-init
loop-i-init c = least_none _

pub loop-i-preserved : goal.loop-i-preserved
loop-i-preserved c = elim c.if-comes_first.branch [
  | then-comes_first w ↦ subst (Least _ _) (sym w.least-is) (least_taken _ _ _ c.loop-i.invariant _ c.report_at-report.ensures _ c.comes_first.ensures w.if-comes_first.true)
  | else-comes_first w ↦ subst (Least _ _) (sym w.least-is) (least_left _ _ _ c.loop-i.invariant _ c.report_at-report.ensures _ c.comes_first.ensures w.if-comes_first.false)
]

pub returns : goal.returns
returns c = λ all notion order e. least_end _ all notion order _ _ e c.loop-i.invariant (omega arith)
