-- `filed_reports::write_report` meets its contract: the six numbers stand one after the other.
use Rattle.filed_reports.proofs.Bytes.{report-written}
use Rattle.filed_reports.proofs.write_report.Goals as goal

pub returns : goal.returns
returns c =
    let a = c.args in
    report-written a.bytes.now c.write_number.new.table c.write_number-2.new.table c.write_number-3.new.table
    c.write_number-4.new.table c.write_number-5.new.table c.write_number-6.new.table a.report c.requires c.write_number.ensures
    c.write_number-2.ensures c.write_number-3.ensures c.write_number-4.ensures c.write_number-5.ensures
    c.write_number-6.ensures
