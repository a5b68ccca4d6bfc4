-- `set_calls::rank_from_set` meets its contract: each answer tells its number or its values, which mean what the answer means.
use Rattle.call_answers.proofs.Ranking.{rank_gave, rank-refused}
use Rattle.set_calls.proofs.rank_from_set.Goals as goal

pub returns-in-Err : goal.returns-in-Err
returns-in-Err c = let all = rank-refused _ c.args.set.now _ _ _ c.in-Err.ensures c.number.ensures in record { rank_after = all.0; kept = all.1.0; rank_says = all.1.1 }

pub returns-in-Ok : goal.returns-in-Ok
returns-in-Ok c = let all = rank_gave _ c.args.set.now _ _ c.in-Ok.ensures in record { rank_after = all.0; kept = all.1.0; rank_says = all.1.1 }
