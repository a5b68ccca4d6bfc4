-- `set_calls::job` meets its contract: each answer tells its number or its values, which mean what the answer means.
use Rattle.call_answers.proofs.Ranking.{job_gave, job-refused}
use Rattle.set_calls.proofs.job.Goals as goal

pub returns-in-Err : goal.returns-in-Err
returns-in-Err c = let all = job-refused _ _ _ _ _ _ _ _ c.in-Err.ensures c.number.ensures in record { to_after = all.0; kept = all.1.0; job_says = all.1.1 }

pub returns-in-Ok : goal.returns-in-Ok
returns-in-Ok c = let all = job_gave _ _ _ _ _ _ _ _ c.in-Ok.ensures in record { to_after = all.0; kept = all.1.0; job_says = all.1.1 }
