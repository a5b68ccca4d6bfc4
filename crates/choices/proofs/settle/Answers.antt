-- `choices::settle` meets its contract: a rank counts where the sum breaks.
use Rattle.choices.proofs.Settling.{lower-rank, higher-rank, no_break}
use Rattle.choices.proofs.settle.Goals as goal

pub returns-then-rank-least : goal.returns-then-rank-least
returns-then-rank-least c = lower-rank _ _ _ _ _ c.sum_breaks.ensures c.if-sum_breaks.true c.rank_of_chosen-rank.ensures c.if-rank-least.true

pub returns-else-rank-least : goal.returns-else-rank-least
returns-else-rank-least c = higher-rank _ _ _ _ c.rank_of_chosen-rank.ensures c.if-rank-least.false

pub returns-else-sum_breaks : goal.returns-else-sum_breaks
returns-else-sum_breaks c = no_break _ _ _ _ c.sum_breaks.ensures c.if-sum_breaks.false
