-- `extents::extended` meets its contract: a report that does not cover the rank adds nothing, one that does adds its ranks.
use native.Mathlib.Omega.{arith}
use Rattle.extents.proofs.Extents.{not_listed, other_size, starts_later, ends_sooner, extends}
use Rattle.extents.proofs.extended.Goals as goal

pub returns-then-reports-i : goal.returns-then-reports-i
returns-then-reports-i c = let all = not_listed _ _ _ _ c.if-reports-i.true in record { onward = all.0; reach_value = all.1 }

pub returns-then-report-size : goal.returns-then-report-size
returns-then-report-size c = let all = other_size _ _ _ _ _ c.report_at-report.ensures c.if-report-size.true in record { onward = all.0; reach_value = all.1 }

pub returns-then-reach-report : goal.returns-then-reach-report
returns-then-reach-report c = let all = starts_later _ _ _ _ _ c.report_at-report.ensures c.if-reach-report.true in record { onward = all.0; reach_value = all.1 }

pub returns-then-report-reach : goal.returns-then-report-reach
returns-then-report-reach c = let all = ends_sooner _ _ _ _ _ c.report_at-report.ensures c.if-report-reach.true in record { onward = all.0; reach_value = all.1 }

pub returns : goal.returns
returns c = let all = extends _ _ _ _ _ c.report_at-report.ensures (omega (arith, c.if-reports-i.false)) c.if-report-size.false
    (omega (arith, c.if-reach-report.false)) (omega (arith, c.if-report-reach.false)) in record { onward = all.0; reach_value = all.1 }
