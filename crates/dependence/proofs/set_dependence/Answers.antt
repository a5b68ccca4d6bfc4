-- `dependence::set_dependence` meets its contract: each refusal where its test is the first to fail, else the counts of the set.
use mathlib.Core.Path.{sym, ◌∙◌}
use Rattle.dependence.proofs.Dependence.{set_too_large, not-rising, set-counted, rising_inside}
use Rattle.dependence.proofs.set_dependence.Goals as goal

pub returns-then-set-gt-MAX_SIZE : goal.returns-then-set-gt-MAX_SIZE
returns-then-set-gt-MAX_SIZE c = let all = set_too_large _ _ _ _ _ _ c.in_ok-kind.ensures c.if-set-gt-MAX_SIZE.true in record { result_value = all.0; dependence_means = all.1 }

pub returns-then-not-is_rising : goal.returns-then-not-is_rising
returns-then-not-is_rising c = let all = not-rising _ _ _ _ _ _ c.in_ok-kind.ensures c.if-set-gt-MAX_SIZE.false (sym c.is_rising.ensures ∙ c.if-not-is_rising.true) in record { result_value = all.0; dependence_means = all.1 }

pub sum_of_set-sum-requires : goal.sum_of_set-sum-requires
sum_of_set-sum-requires c = rising_inside _ _ (sym c.is_rising.ensures ∙ c.if-not-is_rising.false)

pub payers-requires : goal.payers-requires
payers-requires c =
    rising_inside _ _ (sym c.is_rising.ensures ∙ c.if-not-is_rising.false)

pub returns : goal.returns
returns c = let all = set-counted _ _ _ _ _ _ c.in_ok-kind.ensures c.if-set-gt-MAX_SIZE.false (sym c.is_rising.ensures ∙ c.if-not-is_rising.false) _
    c.sum_of_set-sum.ensures.result_value _ _ _ _ c.dependence-on.ensures.0 c.dependence-on.ensures.1
    c.payers.ensures c.is_masked.ensures in record { result_value = all.0; dependence_means = all.1 }
