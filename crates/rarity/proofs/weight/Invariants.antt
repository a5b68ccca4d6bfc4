use Prim.Native.Nat.{◌≤◌}
use Rattle.rarity.proofs.weight.Given as goal

abbrev pub invariant-loop-limit : goal.invariant-loop-limit
invariant-loop-limit l = l.count ≤ l.limit
