-- `verdict_lines::verdict_said` meets its contract: it says what the verdict's answer tells.
use native.Mathlib.Omega.{arith}
use Rattle.verdict_answers.specs.Answers.{set_dependence}
use Rattle.verdict_lines.proofs.Saying.{shown-few, holds-said, broken-said, refused-said}
use borrow.Author.Rules.{rules}
use Rattle.verdict_lines.proofs.verdict_said.Goals as goal

pub broken_said-requires : goal.broken_said-requires
broken_said-requires c =
    let few = shown-few _ _ _ _ _ _ _ _ _ c.in-Ok.is c.in-Broken.is c.directed_verdict-answer.ensures.guarantee in
    search rules

pub returns-in-Holds : goal.returns-in-Holds
returns-in-Holds c =
    let a = c.args in
    let end = c.write_text.ensures in record { wrote = holds-said (set_dependence a.table.now a.shares a.masks a.notion) _ _ _ c.directed_verdict-answer.ensures.set_after a.page.now a.at _ _ _ c.in-Ok.is c.in-Holds.is end.wrote; upper_bound = omega (arith, end.upper_bound) }

pub returns-in-Broken : goal.returns-in-Broken
returns-in-Broken c =
    let a = c.args in
    let end = c.broken_said.ensures in
    let few = shown-few _ _ _ _ _ _ _ _ _ c.in-Ok.is c.in-Broken.is c.directed_verdict-answer.ensures.guarantee in record { wrote = broken-said (set_dependence a.table.now a.shares a.masks a.notion) _ _ _ c.directed_verdict-answer.ensures.set_after a.page.now a.at _ _ _ _ c.in-Ok.is c.in-Broken.is end.wrote; upper_bound = search rules }

pub returns-in-Err : goal.returns-in-Err
returns-in-Err c =
    let a = c.args in
    let end = c.write_named.ensures in record {
      wrote = refused-said (set_dependence a.table.now a.shares a.masks a.notion) _ _ _ c.directed_verdict-answer.ensures.set_after a.page.now a.at _ _ _ _ c.in-Err.is
          c.number.ensures end.wrote;
      upper_bound = omega (arith, end.upper_bound);
    }
