-- `finds::all_break` meets its contract: before each report no found rank was that of a set that does not break.
use native.Mathlib.Omega.{arith}
use Rattle.finds.proofs.Breaking.{passed_none, passed_clean, passed_found, one-false, none-false, small, counted}
use Rattle.finds.proofs.all_break.Goals as goal
use Rattle.finds.proofs.all_break.Goals.{then-report+else-not-breaks_at, else-report}

pub loop-next-init : goal.loop-next-init
loop-next-init c = passed_none _ _ _

pub breaks_at-requires : goal.breaks_at-requires
breaks_at-requires c = record { counts = c.requires.counts; table_len_bound = (c.requires.table_len_bound.0, small _ _ _ _ c.requires.table_len_bound.1 c.report_at-report.ensures c.loop-next-test.true c.if-report.true, counted _ _ _ _ c.requires.table_len_bound.1 c.report_at-report.ensures c.loop-next-test.true c.if-report.true) }

pub returns-then-not-breaks_at : goal.returns-then-not-breaks_at
returns-then-not-breaks_at c = one-false _ _ _ _ _ _ c.report_at-report.ensures c.if-report.true c.breaks_at.ensures c.loop-next-test.true c.if-not-breaks_at.true

pub loop-next-preserved : goal.loop-next-preserved
loop-next-preserved c = elim c.if-report.branch [
  | then-report+else-not-breaks_at w ↦ passed_found _ _ _ _ _ _ c.report_at-report.ensures w.if-report.true w.breaks_at.ensures c.loop-next.invariant w.if-not-breaks_at.false
  | else-report w ↦ passed_clean _ _ _ _ _ c.loop-next.invariant c.report_at-report.ensures w.if-report.false
]

pub returns : goal.returns
returns c = none-false _ _ _ _ c.loop-next.invariant (omega arith)
