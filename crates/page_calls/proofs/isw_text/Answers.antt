-- `page_calls::isw_text` meets its contract: each answer tells its number or its values, which mean what the answer means.
use mathlib.Core.Path.{refl}
use Rattle.call_answers.proofs.Writing.{isw_gave, isw_refused}
use Rattle.page_calls.proofs.isw_text.Goals as goal

pub returns-in-Err : goal.returns-in-Err
returns-in-Err c =
    let e = c.in-Err.ensures in let a = c.args in let all = isw_refused a.order a.text.now _ _ e.text_after e.isw_says a.length.now _ _ refl c.number.ensures in record { text_after = all.0; kept = all.1.0; isw_text_says = all.1.1 }

pub returns-in-Ok : goal.returns-in-Ok
returns-in-Ok c =
    let e = c.in-Ok.ensures in let a = c.args in let all = isw_gave a.order a.text.now _ _ e.text_after e.isw_says a.length.now _ refl in record { text_after = all.0; kept = all.1.0; isw_text_says = all.1.1 }
