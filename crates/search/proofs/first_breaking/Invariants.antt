use Prim.Native.Nat.{◌+◌, ◌-◌, ◌≤◌, ◌<◌}
use mathlib.Core.Path.{◌≡◌}
use lib.ListN.{length}
use Rattle.std.specs.Prelude.{None}
use Rattle.limits.specs.Limits.{max_shares, max_masks}
use Rattle.records.specs.Layout.{wire_count}
use Rattle.running.specs.Kept.{Stands}
use Rattle.breaking.specs.Breaking.{is_breaking}
use Rattle.runs.proofs.Clean.{Clean}
use Rattle.search.proofs.Turns.{Smaller}
use Rattle.search.proofs.first_breaking.Given as goal

abbrev pub invariant-loop-rank : goal.invariant-loop-rank
invariant-loop-rank l =
    (l.found ≡ None) × Clean (is_breaking l.notion l.table max_shares max_masks) (wire_count l.table) l.size l.from l.rank × (l.from ≤ l.rank)
    × (l.rank < l.end → Stands l.notion l.table (wire_count l.table) l.size l.rank l.probes l.tally) × (length l.probes ≡ length l.initial.probes)

abbrev pub decreases-loop-rank : goal.decreases-loop-rank
decreases-loop-rank l = l.end - l.rank

abbrev pub invariant-search : goal.invariant-search
invariant-search l =
    (l.found ≡ None) × Smaller (is_breaking l.notion l.table max_shares max_masks) (wire_count l.table) l.low l.from l.to l.size × (l.low ≤ l.size)
    × (length l.probes ≡ length l.initial.probes)

abbrev pub decreases-search : goal.decreases-search
decreases-search l = l.high + 1 - l.size
