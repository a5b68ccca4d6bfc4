-- `set_calls::set_count` meets its contract: each answer tells its number or its values, which mean what the answer means.
use Rattle.call_answers.proofs.Ranking.{count_gave, count-refused}
use Rattle.set_calls.proofs.set_count.Goals as goal

pub returns-in-Err : goal.returns-in-Err
returns-in-Err c = let all = count-refused _ _ _ _ _ c.in-Err.ensures c.number.ensures in record { sets_after = all.0; kept = all.1.0; count_says = all.1.1 }

pub returns-in-Ok : goal.returns-in-Ok
returns-in-Ok c = let all = count_gave _ _ _ _ c.in-Ok.ensures in record { sets_after = all.0; kept = all.1.0; count_says = all.1.1 }
