use Prim.Native.Nat.{◌+◌, ◌*◌, ◌-◌, ◌≤◌}
use mathlib.Core.Path.{◌≡◌}
use lib.ListN.{length}
use Rattle.pages.specs.Page.{Wrote}
use Rattle.isw_lines.proofs.Writing.{pieces_to}
use Rattle.isw_gadget.specs.Text.{line_text}
use Rattle.isw_lines.proofs.whole_text.Given as goal

abbrev pub invariant-loop-i : goal.invariant-loop-i
invariant-loop-i l =
    (length l.page ≡ length l.initial.page) × (l.i-end ≡ l.order + 1) × (l.i ≤ l.i-end) × (l.end ≤ l.initial.end + 192 * l.i)
    × Wrote l.initial.page l.initial.end (pieces_to (line_text l.order) l.initial.page l.initial.end l.i) l.page l.end

abbrev pub decreases-loop-i : goal.decreases-loop-i
decreases-loop-i l = l.i-end - l.i
