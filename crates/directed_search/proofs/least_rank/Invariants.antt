use Prim.Native.Nat.{◌≤◌}
use Rattle.limits.specs.Limits.{max_shares, max_masks}
use Rattle.records.specs.Layout.{wire_count}
use Rattle.breaking.specs.Breaking.{is_breaking}
use Rattle.directed_search.proofs.Tops.{Rooted, Passed}
use Rattle.directed_search.proofs.least_rank.Given as goal

abbrev pub invariant-loop-top : goal.invariant-loop-top
invariant-loop-top l =
    Rooted l.top l.marks × Passed (is_breaking l.notion l.table max_shares max_masks) (wire_count l.table) l.size l.top × (l.top ≤ l.wires)
