-- `set_calls::set_from_rank` meets its contract: each answer tells its number or its values, which mean what the answer means.
use Rattle.call_answers.proofs.Ranking.{set_gave, set-refused}
use Rattle.set_calls.proofs.set_from_rank.Goals as goal

pub returns-in-Err : goal.returns-in-Err
returns-in-Err c = let all = set-refused _ _ _ _ _ _ _ c.in-Err.ensures c.number.ensures in record { set_after = all.0; kept = all.1.0; set_says = all.1.1 }

pub returns-in-Ok : goal.returns-in-Ok
returns-in-Ok c = let all = set_gave _ _ _ _ _ c.in-Ok.ensures in record { set_after = all.0; kept = all.1.0; set_says = all.1.1 }
