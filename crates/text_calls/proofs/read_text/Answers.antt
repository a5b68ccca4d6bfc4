-- `text_calls::read_text` meets its contract: each answer tells its number or its values, which mean what the answer means.
use Rattle.call_answers.proofs.Reading.{read_gave, read-refused}
use Rattle.text_calls.proofs.read_text.Goals as goal

pub returns-in-Err : goal.returns-in-Err
returns-in-Err c =
    let e = c.in-Err.ensures in let all = read-refused _ _ _ _ _ _ _ _ _ e.table_after e.reads_grammar _ c.number.ensures in record { table_after = all.0; kept = all.1.0; read_says = all.1.1 }

pub returns-in-Ok : goal.returns-in-Ok
returns-in-Ok c =
    let e = c.in-Ok.ensures in let all = read_gave _ _ _ _ _ _ _ _ _ e.table_after e.reads_grammar in record { table_after = all.0; kept = all.1.0; read_says = all.1.1 }
