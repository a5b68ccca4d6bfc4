-- `records::sums::sum_of_outers` meets its contract: after a wire the sum is that of the outer ones up to it.
use native.Mathlib.Omega.{arith}
use mathlib.Core.Path.{sym, ◌∙◌, ap}
use Rattle.basics.specs.Folds.{up_to}
use Rattle.records.specs.Layout.{terms_of}
use Rattle.records.proofs.Adding.{outers_taken, outers_left, whole_table}
use Rattle.records.proofs.sums.sum_of_outers.Goals as goal
use Rattle.records.proofs.sums.sum_of_outers.Goals.{then-is_outer, else-is_outer}

pub loop-wire-init : goal.loop-wire-init
unfolding up_to
loop-wire-init c = c.nothing-sum.ensures.result_value

pub loop-wire-preserved : goal.loop-wire-preserved
loop-wire-preserved c = elim c.if-is_outer.branch [
  | then-is_outer w ↦ ap terms_of w.sum-is ∙ w.with_wire-sum.ensures ∙ outers_taken _ _ _ (sym c.is_outer.ensures ∙ w.if-is_outer.true) c.loop-wire.invariant
  | else-is_outer w ↦ ap terms_of w.sum-is ∙ outers_left _ _ _ (sym c.is_outer.ensures ∙ w.if-is_outer.false) c.loop-wire.invariant
]

pub returns : goal.returns
returns c = let all = whole_table _ _ _ (omega arith) c.loop-wire.invariant in record { result_value = all.0; sum_of_values = all.1 }
