-- `record_tests::functions::function_record` meets its contract: both tables of the code hold what one test over each computes.
use Rattle.record_tests.proofs.Named.{product_record, sum_record, copy_record}
use Rattle.record_tests.proofs.functions.function_record.Goals as goal

pub returns-then-function-eq1 : goal.returns-then-function-eq1
returns-then-function-eq1 c = product_record _ _ c.requires c.if-function-eq1.true

pub returns-then-function-eq2 : goal.returns-then-function-eq2
returns-then-function-eq2 c = sum_record _ _ c.requires c.if-function-eq2.true

pub returns : goal.returns
returns c = copy_record _ _ c.requires c.if-function-eq1.false c.if-function-eq2.false
