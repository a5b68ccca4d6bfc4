-- The group reader calls the item reader at a place that it has reached, and this one the group reader one byte further on. Twice what is left of
-- the text falls, with one more for the group reader.
use Prim.Native.Nat.{◌+◌, ◌*◌, ◌-◌}
use mathlib.Core.Path.{◌≡◌}
use lib.ListN.{length}
use Rattle.groups.proofs.Gathering.{Gone}
use Rattle.groups.proofs.+group_item.Given as goal

abbrev pub decreases-group : goal.decreases-group
decreases-group l = 2 * (length l.text.now - l.progress.at) + 1

abbrev pub decreases-item : goal.decreases-item
decreases-item l = 2 * (length l.text.now - l.progress.at)

abbrev pub invariant-group-loop-at : goal.invariant-group-loop-at
invariant-group-loop-at l =
    Gone l.shares l.declared l.text l.room l.initial.table l.initial.here l.table l.here l.at × (length l.table ≡ length l.initial.table)

abbrev pub decreases-group-loop-at : goal.decreases-group-loop-at
decreases-group-loop-at l = length l.text - l.at
