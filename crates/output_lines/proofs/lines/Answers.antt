-- `output_lines::lines` meets its contract: before each line the run stands where the reading has come.
use native.Mathlib.Omega.{arith}
use mathlib.Core.Path.{refl, ◌∙◌}
use borrow.Author.Rules.{rules}
use Rattle.std.proofs.lemmas.Result.{err_from_is_err_and}
use Rattle.output_lines.proofs.Outputs.{past_start, past_line, past_stopped, past_few, past_all}
use Rattle.output_lines.proofs.lines.Goals as goal

pub loop-at-init : goal.loop-at-init
loop-at-init c = (past_start _ _ _ _ _ _ c.requires.from_in_bounds c.begin-here.ensures, refl)

pub line-requires : goal.line-requires
line-requires c =
    let pre = c.requires in
    let l = c.loop-at in
    let g = l.invariant.0 in record { sized = record { text_size = pre.sized.text_size; table_size = l.invariant.1 ∙ pre.sized.table_size; most = pre.sized.most }; within = (g.within, g.most-lines, g.blank) }

pub returns-in_err-here : goal.returns-in_err-here
returns-in_err-here c =
    let a = c.args in
    let l = c.loop-at in
    let p = err_from_is_err_and c.from_residual.result c.from_residual.ensures.1 in
    rw (p.1, p.2)
    (past_stopped a.shares a.declared a.text.now a.from l.table l.here l.at l.invariant.0 c.line.new.table c.in_err-here.field-0.0 c.in_err-here.ensures)

pub loop-at-smaller : goal.loop-at-smaller
loop-at-smaller c =
    let l = c.loop-at in
    let w = c.in_ok-here.ensures in
    let place = l.invariant.0.place in
    let more = w.forward.1 (omega (arith, c.loop-at-test.true, place)) in
    omega (arith, more, c.loop-at-test.true, place)

pub loop-at-preserved : goal.loop-at-preserved
loop-at-preserved c =
    let a = c.args in
    let l = c.loop-at in (
      past_line a.shares a.declared a.text.now a.from l.table l.here l.at l.invariant.0 _ _ c.in_ok-here.ensures,
      search rules,
    )

pub returns-then-here-shares : goal.returns-then-here-shares
returns-then-here-shares c =
    let a = c.args in
    let l = c.loop-at in
    past_few a.shares a.declared a.text.now a.from l.table l.here l.at l.invariant.0 c.loop-at-test.false
    c.if-here-shares.true

pub returns : goal.returns
returns c =
    let a = c.args in
    let l = c.loop-at in
    past_all a.shares a.declared a.text.now a.from l.table l.here l.at l.invariant.0 c.loop-at-test.false
    c.if-here-shares.false
