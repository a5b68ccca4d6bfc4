-- `isw_lines::heading` meets its contract: before each turn the header lines up to that mask are written.
use native.Mathlib.Omega.{arith}
use Rattle.isw_lines.proofs.Numbering.{pairs_formula, pairs_small, pairs-few, pairs-some}
use Rattle.isw_lines.proofs.Writing.{names_begin, names-next, header_wrote}
use borrow.Author.Rules.{rules}
use Rattle.isw_lines.proofs.heading.Goals as goal

pub overflow_mul-mask-end : goal.overflow_mul-mask-end
overflow_mul-mask-end c = let small = pairs_small c.args.order c.requires.2 in omega (arith, small)

pub loop-mask-init : goal.loop-mask-init
loop-mask-init c =
    let a = c.args in
    let pre = c.requires in
    let count = pairs_formula a.order in
    let few = pairs-few a.order pre.1 pre.2 in
    let some = pairs-some a.order pre.1 in (
      search rules,
      count,
      omega (arith, count, few),
      search rules,
      omega (arith, count, some),
      search rules,
      names_begin _ _,
    )

pub write_named-end-requires : goal.write_named-end-requires
write_named-end-requires c =
    let l = c.loop-mask in
    omega (arith, l.invariant.0, l.invariant.2, l.invariant.4, l.invariant.5, c.requires.0, c.write_named-first.ensures.upper_bound, c.write_text-end.ensures.upper_bound)

pub loop-mask-preserved : goal.loop-mask-preserved
loop-mask-preserved c =
    let l = c.loop-mask in
    let taken = c.loop-mask-test.true in
    let more = c.write_named-end.ensures in (
      search rules,
      l.invariant.1,
      l.invariant.2,
      omega (arith, l.invariant.3),
      omega (arith, taken),
      omega (arith, l.invariant.5, more.upper_bound),
      names-next _ _ l.mask l.page l.end _ _ l.invariant.3 (omega (arith, l.invariant.2, l.invariant.4)) l.invariant.6 more.wrote,
    )

pub write_text-requires : goal.write_text-requires
write_text-requires c =
    let l = c.loop-mask in
    omega (arith, l.invariant.0, l.invariant.2, l.invariant.4, l.invariant.5, c.requires.0, c.write_named-first.ensures.upper_bound, c.write_text-end.ensures.upper_bound)

pub returns : goal.returns
returns c =
    let a = c.args in
    let l = c.loop-mask in
    let left = c.loop-mask-test.false in
    let pre = c.requires in
    let order = c.write_named-first.ensures in
    let first = c.write_text-end.ensures in
    let end = c.write_text.ensures in record {
      wrote = header_wrote a.order l.mask a.page.now _ _ _ _ l.page l.end _ _ l.invariant.3 (omega (arith, left, l.invariant.1, l.invariant.4))
          (omega (arith, pre.2)) order.wrote first.wrote l.invariant.6 end.wrote;
      upper_bound = omega (arith, order.upper_bound, first.upper_bound, end.upper_bound, l.invariant.2, l.invariant.4, l.invariant.5);
    }
