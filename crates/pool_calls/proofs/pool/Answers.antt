-- `pool_calls::pool` meets its contract: each answer tells its number or its values, which mean what the answer means.
use Rattle.pool_calls.proofs.Calling.{pool_holds, pool_broken, pool_uncovered, pool_refused}
use Rattle.pool_calls.proofs.pool.Goals as goal

pub returns-in-Err : goal.returns-in-Err
returns-in-Err c =
    let e = c.in-Err.ensures in let all = pool_refused _ _ _ _ _ _ _ _ _ _ _ e.result_value c.number.ensures in record { rank_after = all.0; kept = all.1.0; pool_tells = all.1.1 }

pub returns-in-Holds : goal.returns-in-Holds
returns-in-Holds c =
    let e = c.in-Ok.ensures in let all = pool_holds _ _ _ _ _ _ _ _ _ _ e.result_value e.pool_says e.pool_agrees c.in-Holds.is in record { rank_after = all.0; kept = all.1.0; pool_tells = all.1.1 }

pub returns-in-Broken : goal.returns-in-Broken
returns-in-Broken c =
    let e = c.in-Ok.ensures in let all = pool_broken _ _ _ _ _ _ _ _ _ _ e.result_value e.pool_says e.pool_agrees _ _ c.in-Broken.is in record { rank_after = all.0; kept = all.1.0; pool_tells = all.1.1 }

pub returns-in-Uncovered : goal.returns-in-Uncovered
returns-in-Uncovered c =
    let e = c.in-Ok.ensures in let all = pool_uncovered _ _ _ _ _ _ _ _ _ _ e.result_value e.pool_says e.pool_agrees _ _ c.in-Uncovered.is in record { rank_after = all.0; kept = all.1.0; pool_tells = all.1.1 }
