-- `verdict_lines::broken_said` meets its contract: its parts are written one after the other.
use native.Mathlib.Omega.{arith}
use Rattle.pages.proofs.Writing.{wrote_after}
use Rattle.verdict_lines.proofs.broken_said.Goals as goal

pub returns : goal.returns
returns c =
    let a = c.args in
    let broken = c.write_text-next.ensures in
    let wires = c.write_wires-end.ensures in
    let named = c.operands_said.ensures in record { wrote = wrote_after a.page.now a.at _ _ _ _ _ _ (wrote_after a.page.now a.at _ _ _ _ _ _ broken.wrote wires.wrote) named.wrote; upper_bound = omega (arith, broken.upper_bound, wires.upper_bound, named.upper_bound) }
