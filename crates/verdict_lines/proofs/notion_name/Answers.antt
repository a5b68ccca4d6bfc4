-- `verdict_lines::notion_name` meets its contract.
use native.Mathlib.Omega.{arith}
use Rattle.verdict_lines.proofs.Saying.{wrote_ni, wrote_sni}
use Rattle.verdict_lines.proofs.notion_name.Goals as goal

pub returns-then-notion-eq1 : goal.returns-then-notion-eq1
returns-then-notion-eq1 c =
    let a = c.args in record {
      wrote = wrote_ni a.page.now a.at _ _ a.notion c.if-notion-eq1.true
          c.write_text.ensures.wrote;
      upper_bound = omega (arith, c.write_text.ensures.upper_bound);
    }

pub returns : goal.returns
returns c =
    let a = c.args in record {
      wrote = wrote_sni a.page.now a.at _ _ a.notion c.if-notion-eq1.false
          c.write_text-2.ensures.wrote;
      upper_bound = omega (arith, c.write_text-2.ensures.upper_bound);
    }
