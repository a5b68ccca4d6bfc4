-- `text_calls::text_part` meets its contract: each answer tells its number or its values, which mean what the answer means.
use Rattle.call_answers.proofs.Reading.{part_gave, part-refused}
use Rattle.text_calls.proofs.text_part.Goals as goal

pub returns-in-Err : goal.returns-in-Err
returns-in-Err c = let all = part-refused _ _ _ _ _ _ c.in-Err.ensures _ c.number.ensures in record { length_after = all.0; kept = all.1.0; part_says = all.1.1 }

pub returns-in-Ok : goal.returns-in-Ok
returns-in-Ok c = let all = part_gave _ _ _ _ _ _ c.in-Ok.ensures in record { length_after = all.0; kept = all.1.0; part_says = all.1.1 }
