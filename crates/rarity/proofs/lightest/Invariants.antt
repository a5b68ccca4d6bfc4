use Prim.Native.Nat.{◌<◌}
use Rattle.limits.specs.Limits.{max_masks}
use Rattle.rarity.proofs.lightest.Given as goal

abbrev pub invariant-loop-mask : goal.invariant-loop-mask
invariant-loop-mask l = l.lightest < max_masks
