use Prim.Native.Nat.{◌+◌, ◌*◌, ◌-◌, ◌≤◌}
use mathlib.Core.Path.{◌≡◌}
use lib.ListN.{length}
use Rattle.limits.specs.Limits.{max_masks}
use Rattle.pages.specs.Page.{Wrote}
use Rattle.isw_gadget.specs.Pairs.{pairs}
use Rattle.isw_lines.proofs.Writing.{names_to}
use Rattle.isw_lines.proofs.heading.Given as goal

abbrev pub invariant-loop-mask : goal.invariant-loop-mask
invariant-loop-mask l =
    (length l.page ≡ length l.initial.page) × (l.mask-end ≡ pairs l.order) × (l.mask-end ≤ max_masks) × (1 ≤ l.mask) × (l.mask ≤ l.mask-end) × (l.end ≤ l.initial.end + 23 * l.mask)
    × Wrote l.initial.page l.initial.end (names_to l.mask) l.page l.end

abbrev pub decreases-loop-mask : goal.decreases-loop-mask
decreases-loop-mask l = l.mask-end - l.mask
