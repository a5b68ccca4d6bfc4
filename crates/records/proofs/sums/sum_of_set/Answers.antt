-- `records::sums::sum_of_set` meets its contract: after each wire the sum is that of the first i.
use native.Mathlib.Omega.{arith}
use mathlib.Core.Path.{◌∙◌}
use Rattle.records.proofs.Adding.{set-inside, total_more, whole_set}
use Rattle.records.proofs.sums.sum_of_set.Goals as goal

pub loop-wire-init : goal.loop-wire-init
loop-wire-init c = c.nothing-sum.ensures.result_value

pub with_wire-sum-requires : goal.with_wire-sum-requires
with_wire-sum-requires c = rw c.from.ensures (set-inside _ _ _ c.requires (omega arith))

pub loop-wire-preserved : goal.loop-wire-preserved
loop-wire-preserved c = rw c.from.ensures at c.with_wire-sum.ensures ∙ total_more _ _ _ _ (omega arith) c.loop-wire.invariant

pub returns : goal.returns
returns c = let all = whole_set _ _ _ _ (omega arith) c.loop-wire.invariant in record { result_value = all.0; sum_of_values = all.1 }
