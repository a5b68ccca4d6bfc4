use Prim.Native.Nat.{◌+◌, ◌*◌, ◌≤◌}
use mathlib.Core.Path.{◌≡◌}
use lib.ListN.{length, take}
use Rattle.pages.specs.Page.{Wrote, wire_numbers}
use Rattle.pages.proofs.write_wires.Given as goal

abbrev pub invariant-loop-wire : goal.invariant-loop-wire
invariant-loop-wire l =
    (length l.page ≡ length l.initial.page) × (l.end ≤ l.at + 21 * l.wire-index) × Wrote l.initial.page l.at (wire_numbers (take l.wire-index l.set)) l.page l.end
