-- `isw_lines::line` meets its contract: before each turn the line up to that share is written.
use native.Mathlib.Omega.{arith}
use Rattle.isw_lines.proofs.Writing.{pieces_begin, pieces_next, part_text, line_wrote}
use borrow.Author.Rules.{rules}
use Rattle.isw_lines.proofs.line.Goals as goal

pub loop-j-init : goal.loop-j-init
loop-j-init c =
    let a = c.args in (search rules, search rules, search rules, search rules, pieces_begin (part_text a.order a.i) _ _)

pub loop-j-preserved : goal.loop-j-preserved
loop-j-preserved c =
    let a = c.args in
    let l = c.loop-j in (
      search rules,
      search rules,
      search rules,
      search rules,
      pieces_next (part_text a.order a.i) _ _ l.j l.page l.end _ _ l.invariant.4 c.part-end.ensures.wrote,
    )

pub returns : goal.returns
returns c =
    let a = c.args in
    let pre = c.requires in
    let l = c.loop-j in
    let left = c.loop-j-test.false in
    let first = c.product-end.ensures in
    let end = c.write_text.ensures in record { wrote = line_wrote a.order a.i a.page.now a.at l.j _ _ l.page l.end _ _ (omega (arith, left, l.invariant.1, l.invariant.2)) first l.invariant.4 end.wrote; upper_bound = omega (arith, first.end_is, end.upper_bound, l.invariant.1, l.invariant.2, l.invariant.3, pre.2) }
