use Prim.Native.Nat.{◌+◌, ◌*◌, ◌-◌, ◌≤◌}
use mathlib.Core.Path.{◌≡◌}
use lib.ListN.{length}
use Rattle.pages.specs.Page.{Wrote}
use Rattle.isw_lines.proofs.Writing.{pieces_to, part_text}
use Rattle.isw_lines.proofs.line.Given as goal

abbrev pub invariant-loop-j : goal.invariant-loop-j
invariant-loop-j l =
    (length l.page ≡ length l.initial.page) × (l.j-end ≡ l.order + 1) × (l.j ≤ l.j-end) × (l.end ≤ l.initial.end + 16 * l.j)
    × Wrote l.initial.page l.initial.end (pieces_to (part_text l.order l.i) l.initial.page l.initial.end l.j) l.page l.end

abbrev pub decreases-loop-j : goal.decreases-loop-j
decreases-loop-j l = l.j-end - l.j
