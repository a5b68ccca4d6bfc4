use Prim.Native.Nat.{◌+◌, ◌≤◌}
use mathlib.Core.Path.{◌≡◌}
use lib.ListN.{length}
use Rattle.limits.specs.Limits.{max_shares, max_masks}
use Rattle.records.specs.Layout.{wire_count}
use Rattle.breaking.specs.Breaking.{is_breaking}
use Rattle.directed_search.proofs.Growing.{Smaller}
use Rattle.directed_search.proofs.first_set.Given as goal

abbrev pub invariant-loop-size : goal.invariant-loop-size
invariant-loop-size l =
    Smaller (is_breaking l.notion l.table max_shares max_masks) (wire_count l.table) l.size × (length l.probes ≡ length l.initial.probes) × (1 ≤ l.size) × (l.size ≤ l.order + 1)
