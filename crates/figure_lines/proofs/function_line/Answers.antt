-- `figure_lines::function_line` meets its contract: the name goes by the first function that the check says yes to.
use native.Mathlib.Omega.{arith}
use mathlib.Core.Path.{sym, ◌∙◌}
use mathlib.Core.Bool.{true, false}
use Rattle.figure_lines.proofs.Saying.{wrote_product, wrote_sum, wrote_last}
use Rattle.figure_lines.proofs.function_line.Goals as goal

pub returns-then-computes : goal.returns-then-computes
returns-then-computes c =
    let a = c.args in record {
      wrote = wrote_product a.page.now a.at _ _ a.table.now a.shares a.masks
          (sym c.computes.ensures ∙ c.if-computes.true)
          c.write_text.ensures.wrote;
      upper_bound = omega (arith, c.write_text.ensures.upper_bound);
    }

pub returns-then-computes-2 : goal.returns-then-computes-2
returns-then-computes-2 c =
    let a = c.args in record {
      wrote = wrote_sum a.page.now a.at _ _ a.table.now a.shares a.masks
          (sym c.computes.ensures
          ∙ c.if-computes.false)
          (sym c.computes-2.ensures ∙ c.if-computes-2.true)
          c.write_text-then-computes-2.ensures.wrote;
      upper_bound = omega (arith, c.write_text-then-computes-2.ensures.upper_bound);
    }

pub returns-then-computes-3 : goal.returns-then-computes-3
returns-then-computes-3 c =
    let a = c.args in
    record {
      wrote = wrote_last a.page.now a.at _ _ a.table.now a.shares a.masks true
          (sym c.computes.ensures ∙ c.if-computes.false)
          (sym c.computes-2.ensures ∙ c.if-computes-2.false)
          (sym c.computes-3.ensures ∙ c.if-computes-3.true)
          c.write_text-then-computes-3.ensures.wrote;
      upper_bound = omega (arith, c.write_text-then-computes-3.ensures.upper_bound);
    }

pub returns : goal.returns
returns c =
    let a = c.args in
    record {
      wrote = wrote_last a.page.now a.at _ _ a.table.now a.shares a.masks false
          (sym c.computes.ensures ∙ c.if-computes.false)
          (sym c.computes-2.ensures ∙ c.if-computes-2.false)
          (sym c.computes-3.ensures ∙ c.if-computes-3.false)
          c.write_text-2.ensures.wrote;
      upper_bound = omega (arith, c.write_text-2.ensures.upper_bound);
    }
