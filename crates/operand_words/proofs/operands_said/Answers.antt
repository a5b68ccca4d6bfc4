-- `operand_words::operands_said` meets its contract: it says what is told of the set's dependence.
use native.Mathlib.Omega.{arith}
use Rattle.pages.proofs.Writing.{wrote_nothing}
use Rattle.operand_words.proofs.Saying.{told_operands}
use Rattle.operand_words.proofs.operands_said.Goals as goal

pub returns-in-Ok : goal.returns-in-Ok
returns-in-Ok c =
    let a = c.args in
    let end = c.operands_named.ensures in record {
      wrote = told_operands a.page.now a.at _ _ _ _ c.in-Ok.ensures.result_value end.wrote;
      upper_bound = omega (arith, end.upper_bound);
    }

pub returns-in-Err : goal.returns-in-Err
returns-in-Err c =
    let a = c.args in record {
      wrote = told_operands a.page.now a.at _ _ _ _ c.in-Err.ensures.result_value (wrote_nothing a.page.now a.at);
      upper_bound = omega arith;
    }
