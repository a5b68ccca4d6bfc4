-- `operand_words::operands_named` meets its contract: the word by the two tests.
use native.Mathlib.Omega.{arith}
use mathlib.Core.Bool.{true, false}
use Rattle.pages.proofs.Writing.{wrote_nothing}
use Rattle.operand_words.proofs.Saying.{wrote_operands}
use Rattle.operand_words.proofs.operands_named.Goals as goal

pub returns-then-b : goal.returns-then-b
returns-then-b c =
    let a = c.args in record {
      wrote = wrote_operands a.page.now a.at _ _ a.a a.b true true c.if-a.true
          c.if-b.true c.write_text.ensures.wrote;
      upper_bound = omega (arith, c.write_text.ensures.upper_bound);
    }

pub returns-then-a : goal.returns-then-a
returns-then-a c =
    let a = c.args in record {
      wrote = wrote_operands a.page.now a.at _ _ a.a a.b true false c.if-a.true
          c.if-b.false c.write_text-then-a.ensures.wrote;
      upper_bound = omega (arith, c.write_text-then-a.ensures.upper_bound);
    }

pub returns-then-b-2 : goal.returns-then-b-2
returns-then-b-2 c =
    let a = c.args in record {
      wrote = wrote_operands a.page.now a.at _ _ a.a a.b false true c.if-a.false
          c.if-b-2.true c.write_text-then-b-2.ensures.wrote;
      upper_bound = omega (arith, c.write_text-then-b-2.ensures.upper_bound);
    }

pub returns : goal.returns
returns c =
    let a = c.args in record {
      wrote = wrote_operands a.page.now a.at _ _ a.a a.b false false c.if-a.false c.if-b-2.false
          (wrote_nothing a.page.now a.at);
      upper_bound = omega arith;
    }
