-- `rarity::weight` has no more to count than there are wires.
use native.Mathlib.Omega.{arith}
use lib.Dec.{eqb}
use Rattle.records.proofs.Words.{byte-once}
use Rattle.rarity.proofs.weight.Goals as goal

pub overflow_add-count : goal.overflow_add-count
overflow_add-count c = omega (arith, c.from-count.ensures, (byte-once (eqb c.highest_below.result c.loop-limit.limit)).1)

pub loop-limit-preserved : goal.loop-limit-preserved
loop-limit-preserved c = omega (arith, c.from-count.ensures, (byte-once (eqb c.highest_below.result c.loop-limit.limit)).1)
