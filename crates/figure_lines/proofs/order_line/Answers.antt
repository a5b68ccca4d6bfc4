-- `figure_lines::order_line` meets its contract: its parts are written one after the other.
use native.Mathlib.Omega.{arith}
use Rattle.pages.proofs.Writing.{wrote_after}
use Rattle.figure_lines.proofs.order_line.Goals as goal

pub returns : goal.returns
returns c =
    let a = c.args in
    let first = c.write_named-first.ensures in
    let second = c.write_named-second.ensures in
    let third = c.write_named-third.ensures in
    let fourth = c.write_named-fourth.ensures in
    let end = c.write_text.ensures in record {
      wrote = wrote_after a.page.now 0 _ _ _ _ _ _
          (wrote_after a.page.now 0 _ _ _ _ _ _
          (wrote_after a.page.now 0 _ _ _ _ _ _ (wrote_after a.page.now 0 _ _ _ _ _ _ first.wrote second.wrote) third.wrote) fourth.wrote)
          end.wrote;
      upper_bound = omega (arith, first.upper_bound, second.upper_bound, third.upper_bound, fourth.upper_bound, end.upper_bound);
    }
