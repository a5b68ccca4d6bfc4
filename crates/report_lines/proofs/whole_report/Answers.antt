-- `report_lines::whole_report` meets its contract: the line of a refusal, or the four lines of a text that was read.
use native.Mathlib.Omega.{arith}
use mathlib.Core.Path.{refl}
use Rattle.report_lines.proofs.Reporting.{room-read, refused-reported, read-reported}
use borrow.Author.Rules.{rules}
use Rattle.report_lines.proofs.whole_report.Goals as goal

pub overflow_mul-table : goal.overflow_mul-table
overflow_mul-table c =
    let room = room-read _ _ _ _ c.in-Ok.read c.in-Ok.ensures.reads_grammar refl in
    search rules

pub returns-in-Err : goal.returns-in-Err
returns-in-Err c =
    let a = c.args in
    let end = c.refused_line.ensures in record {
      wrote = refused-reported a.text.now _ a.page.now _ _ c.in-Err.fault _ c.in-Err.ensures.table_after c.number.ensures end.wrote;
      upper_bound = omega (arith, end.upper_bound);
    }

pub returns-in-Ok : goal.returns-in-Ok
returns-in-Ok c =
    let a = c.args in
    let next = c.order_line-next.ensures in
    let end = c.checked_lines.ensures in record {
      wrote = read-reported a.text.now _ a.page.now _ _ c.in-Ok.read _ _ c.in-Ok.ensures.table_after next.wrote end.wrote;
      upper_bound = omega (arith, next.upper_bound, end.upper_bound);
    }
