-- `output_lines::line` meets its contract: after the last output line a line is skipped or one too many; else its group is read, and it ends.
use native.Mathlib.Omega.{arith}
use mathlib.Core.Path.{subst}
use Prim.Native.Nat.{ℕ}
use Rattle.std.proofs.lemmas.Result.{err_from_is_err_and}
use Rattle.output_lines.specs.Going.{LineReads}
use Rattle.output_lines.proofs.Outputs.{line_stopped, line-finished}
use borrow.Author.Rules.{rules}
use Rattle.output_lines.proofs.line.Goals as goal

pub returns-then-progress-shares : goal.returns-then-progress-shares
returns-then-progress-shares c =
    let a = c.args in
    subst (λ (n : ℕ). LineReads n a.declared a.text.now a.table.now a.progress a.table.now c.line_over.result)
    c.if-progress-shares.true
    (c.line_over.ensures a.declared a.table.now)

pub group-requires : goal.group-requires
group-requires c =
    let pre = c.requires in record { sized = pre.sized; within = (pre.within.0, omega (arith, pre.within.1, c.if-progress-shares.false), omega arith) }

pub finish_line-requires : goal.finish_line-requires
finish_line-requires c =
    let pre = c.requires in
    let w = c.in_ok-done.ensures in record {
      text_len_bound = (pre.sized.text_size, search rules);
      within = (
        w.within,
        w.ends,
        omega
            (arith, w.same_lines, pre.within.1, c.if-progress-shares.false, pre.sized.most),
      );
    }

pub returns-in_err-done : goal.returns-in_err-done
returns-in_err-done c =
    let a = c.args in
    let p = err_from_is_err_and c.from_residual.result c.from_residual.ensures.1 in
    rw (p.1, p.2)
    (line_stopped a.shares a.declared a.text.now a.table.now a.progress c.group.new.table c.in_err-done.field-0.0 c.in_err-done.ensures)

pub returns : goal.returns
returns c =
    let a = c.args in
    let pre = c.requires in
    let w = c.in_ok-done.ensures in
    line-finished a.shares a.declared a.text.now a.table.now a.progress
    c.group.new.table c.finish_line.new.table _
    c.finish_line.result w
    (c.finish_line.ensures a.shares a.declared
    (omega (arith, w.same_lines, pre.within.1, c.if-progress-shares.false)))
