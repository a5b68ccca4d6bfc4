-- `verdict_lines::notion_line` meets its contract: its parts are written one after the other.
use native.Mathlib.Omega.{arith}
use Rattle.pages.proofs.Writing.{wrote_after}
use Rattle.verdict_lines.specs.Lines.{notion_line}
use Rattle.verdict_lines.proofs.notion_line.Goals as goal

pub returns : goal.returns
unfolding notion_line
returns c =
    let a = c.args in
    let name = c.notion_name-named.ensures in
    let said = c.verdict_said-told.ensures in
    let end = c.write_text.ensures in record { wrote = wrote_after a.page.now a.at _ _ _ _ _ _ (wrote_after a.page.now a.at _ _ _ _ _ _ name.wrote said.wrote) end.wrote; upper_bound = omega (arith, name.upper_bound, said.upper_bound, end.upper_bound) }
