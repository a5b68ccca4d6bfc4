-- `report_lines::checked_lines` meets its contract: the three lines are written one after the other.
use native.Mathlib.Omega.{arith}
use Rattle.pages.proofs.Writing.{wrote_after}
use Rattle.report_lines.specs.Report.{checked}
use Rattle.report_lines.proofs.checked_lines.Goals as goal

pub returns : goal.returns
unfolding checked
returns c =
    let a = c.args in
    let function = c.function_line-first.ensures in
    let ni = c.notion_line-second.ensures in
    let sni = c.notion_line.ensures in record { wrote = wrote_after a.page.now a.at _ _ _ _ _ _ (wrote_after a.page.now a.at _ _ _ _ _ _ function.wrote ni.wrote) sni.wrote; upper_bound = omega (arith, function.upper_bound, ni.upper_bound, sni.upper_bound) }
