-- `report_text::report` meets its contract: the report is written to the code's own page, and copied where it fits.
use Rattle.report_text.proofs.Reporting.{report-short, report-written, room-refused, room-written}
use Prim.Native.Nat.{◌-◌}
use mathlib.Core.Path.{ap}
use borrow.Rule.Slice.PartMut.{put_mid}
use Rattle.report_text.proofs.report.Goals as goal

pub returns-then-buffer-length : goal.returns-then-buffer-length
returns-then-buffer-length c =
    let a = c.args in
    let whole = c.whole_report-length.ensures in record { buffer_after = report-short a.text.now a.buffer.now _ _ _ whole.wrote c.if-buffer-length.true; room_enough = room-refused _ _ _ whole.upper_bound c.if-buffer-length.true }

pub returns : goal.returns
returns c =
    let a = c.args in
    let whole = c.whole_report-length.ensures in record {
      buffer_after = report-written a.text.now a.buffer.now _ _ _ whole.wrote _ c.if-buffer-length.false
          (ap (put_mid 0 (c.whole_report-length.result - 0) a.buffer.now) c.copy_from_slice.ensures.after);
      room_enough = room-written _ _ whole.upper_bound;
    }
