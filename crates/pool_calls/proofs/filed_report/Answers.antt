-- `pool_calls::filed_report` meets its contract: what the entry tells, or 25.
use Rattle.pool_calls.proofs.Calling.{filing_odd, filing_done, filing_refused}
use Rattle.pool_calls.proofs.filed_report.Goals as goal

pub returns-then-clean-gt1 : goal.returns-then-clean-gt1
returns-then-clean-gt1 c =
    let a = c.args in let all = filing_odd a.notion a.size a.from a.to a.clean a.rank _ _ c.if-clean-gt1.true c.number.ensures in record { report_after = all.0; kept = all.1.0; filing_says = all.1.1 }

pub returns-in-Err : goal.returns-in-Err
returns-in-Err c =
    let a = c.args in let all = filing_refused a.notion a.size a.from a.to a.clean a.rank _ c.if-clean-gt1.false _ c.checked.ensures _ _ _ c.in-Err.ensures.report_after c.number-in-Err.ensures in record { report_after = all.0; kept = all.1.0; filing_says = all.1.1 }

pub returns-in-Ok : goal.returns-in-Ok
returns-in-Ok c =
    let a = c.args in let all = filing_done a.notion a.size a.from a.to a.clean a.rank _ c.if-clean-gt1.false _ c.checked.ensures _ c.in-Ok.ensures.report_after in record { report_after = all.0; kept = all.1.0; filing_says = all.1.1 }
