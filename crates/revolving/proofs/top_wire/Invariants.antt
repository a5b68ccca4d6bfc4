use Prim.Native.Nat.{◌≤◌, ◌<◌, ◌-◌}
use Rattle.counts.specs.Counts.{binom}
use Rattle.revolving.proofs.top_wire.Given as goal

abbrev pub invariant-loop-high : goal.invariant-loop-high
invariant-loop-high l = (l.low < l.high) × (l.high ≤ l.n) × (binom l.low l.k ≤ l.r) × (l.r < binom l.high l.k)

abbrev pub decreases-loop-high : goal.decreases-loop-high
decreases-loop-high l = l.high - l.low
