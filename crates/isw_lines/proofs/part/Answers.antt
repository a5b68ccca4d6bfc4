-- `isw_lines::part` meets its contract: nothing for a line's own share, a mask for one above, the corrected products for one below.
use native.Mathlib.Omega.{arith}
use Rattle.isw_lines.proofs.Numbering.{pair_small}
use Rattle.isw_lines.proofs.Writing.{lower, part_own, part-above, part-below}
use borrow.Author.Rules.{rules}
use Rattle.isw_lines.proofs.part.Goals as goal

pub returns-then-j-i : goal.returns-then-j-i
returns-then-j-i c = let a = c.args in let all = part_own a.page.now a.at a.order a.i a.j c.if-j-i.true in record { wrote = all.0; upper_bound = all.1 }

pub returns-then-i-j : goal.returns-then-i-j
returns-then-i-j c =
    let a = c.args in
    let pre = c.requires in let all = part-above a.page.now a.at a.order a.i a.j _ _ _ pre.3 c.if-i-j.true pre.2
    c.pair_number.ensures c.write_named.ensures.wrote in record { wrote = all.0; upper_bound = all.1 }

pub corrected-requires : goal.corrected-requires
corrected-requires c =
    let a = c.args in
    let pre = c.requires in
    let below = lower a.i a.j c.if-j-i.false c.if-i-j.false in
    let small = pair_small a.order a.j a.i below pre.1 pre.3 in
    let number = c.pair_number-2.ensures in
    (search rules, omega (arith, small, number), omega (arith, pre), omega (arith, pre))

pub returns : goal.returns
returns c =
    let a = c.args in
    let pre = c.requires in let all = part-below a.page.now a.at a.order a.i a.j _ _ _ pre.3
    (lower a.i a.j c.if-j-i.false c.if-i-j.false) pre.1 c.pair_number-2.ensures
    c.corrected.ensures in record { wrote = all.0; upper_bound = all.1 }
