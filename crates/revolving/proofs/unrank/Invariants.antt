use Prim.Native.Nat.{◌≤◌, ◌<◌}
use mathlib.Core.Path.{◌≡◌}
use mathlib.Core.List.{◌++◌}
use lib.ListN.{length, drop}
use Rattle.limits.specs.Limits.{max_wires}
use Rattle.counts.specs.Counts.{binom}
use Rattle.revolving.specs.Order.{set_at}
use Rattle.revolving.proofs.unrank.Given as goal

abbrev pub invariant-loop-place : goal.invariant-loop-place
invariant-loop-place l = (l.n ≤ max_wires) × (length l.set ≡ length l.initial.set) × (l.r < binom l.n l.place) × (set_at l.wires l.size l.rank ++ drop l.size l.initial.set ≡ set_at l.n l.place l.r ++ drop l.place l.set)
