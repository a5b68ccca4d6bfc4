-- `page_calls::report_text` meets its contract: each answer tells its number or its values, which mean what the answer means.
use mathlib.Core.Path.{refl}
use Rattle.call_answers.proofs.Reading.{report_gave, report-refused}
use Rattle.page_calls.proofs.report_text.Goals as goal

pub returns-in-Err : goal.returns-in-Err
returns-in-Err c =
    let e = c.in-Err.ensures in let a = c.args in let all = report-refused a.text.now a.buffer.now _ _ e.buffer_after e.room_enough a.length.now _ _ refl c.number.ensures in record { buffer_after = all.0; kept = all.1.0; report_says = all.1.1 }

pub returns-in-Ok : goal.returns-in-Ok
returns-in-Ok c =
    let e = c.in-Ok.ensures in let a = c.args in let all = report_gave a.text.now a.buffer.now _ _ e.buffer_after e.room_enough a.length.now _ refl in record { buffer_after = all.0; kept = all.1.0; report_says = all.1.1 }
