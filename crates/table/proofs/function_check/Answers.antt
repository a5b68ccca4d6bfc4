-- `table::function_check` meets its contract: what is left of the outer wires' sum and the function's record.
use Rattle.table.proofs.Entries.{answered}
use Rattle.table.proofs.function_check.Goals as goal

pub returns : goal.returns
returns c = let all = answered _ _ _ _ c.in_ok-table_check.ensures _ _ _ _ c.if-function-lt1.false c.if-function-gt3.false
    c.sum_of_outers-outers.ensures.result_value c.function_record.ensures
    c.added-rest.ensures.result_value c.is_blank.ensures in record { result_value = all.0; function_means = all.1 }
