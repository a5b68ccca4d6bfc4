-- `isw_lines::whole_text` meets its contract: before each turn the text up to that line is written.
use native.Mathlib.Omega.{arith}
use Rattle.isw_lines.proofs.Writing.{pieces_begin, pieces_next, text_wrote}
use Rattle.isw_gadget.specs.Text.{line_text}
use borrow.Author.Rules.{rules}
use Rattle.isw_lines.proofs.whole_text.Goals as goal

pub loop-i-init : goal.loop-i-init
loop-i-init c =
    let a = c.args in (search rules, search rules, search rules, search rules, pieces_begin (line_text a.order) _ _)

pub loop-i-preserved : goal.loop-i-preserved
loop-i-preserved c =
    let a = c.args in
    let l = c.loop-i in (
      search rules,
      search rules,
      search rules,
      search rules,
      pieces_next (line_text a.order) _ _ l.i l.page l.end _ _ l.invariant.4 c.line-end.ensures.wrote,
    )

pub returns : goal.returns
returns c =
    let a = c.args in
    let pre = c.requires in
    let l = c.loop-i in
    let first = c.heading-end.ensures in record { wrote = text_wrote a.order l.i a.page.now _ _ l.page l.end (omega (arith, c.loop-i-test.false, l.invariant.1, l.invariant.2)) first.wrote l.invariant.4; upper_bound = omega (arith, first.upper_bound, l.invariant.1, l.invariant.2, l.invariant.3, pre.2) }
