-- `size_calls::check_size` meets its contract: each answer tells its number or its values, which mean what the answer means.
use Rattle.call_answers.proofs.Measuring.{size_gave, size_short, size_refused}
use Rattle.size_calls.proofs.check_size.Goals as goal

pub returns-then-sets-size : goal.returns-then-sets-size
returns-then-sets-size c =
    let e = c.in-Ok.ensures in let all = size_short _ _ _ _ _ _ _ _ _ e.result_value e.size_says _ c.if-sets-size.true c.number.ensures in record { sets_after = all.0; kept = all.1.0; check_size_says = all.1.1 }

pub returns-else-sets-size : goal.returns-else-sets-size
returns-else-sets-size c =
    let e = c.in-Ok.ensures in let all = size_gave _ _ _ _ _ _ _ _ _ e.result_value e.size_says _ c.if-sets-size.false c.write_sets.ensures in record { sets_after = all.0; kept = all.1.0; check_size_says = all.1.1 }

pub returns-in-Err : goal.returns-in-Err
returns-in-Err c =
    let e = c.in-Err.ensures in let all = size_refused _ _ _ _ _ _ _ _ _ e.result_value e.size_says _ c.number-in-Err.ensures in record { sets_after = all.0; kept = all.1.0; check_size_says = all.1.1 }
