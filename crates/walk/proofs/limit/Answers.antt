-- `walk::limit` meets its contract.
use Rattle.walk.proofs.Sliding.{limit-here, limit-none}
use Rattle.walk.proofs.limit.Goals as goal

pub returns-then-place-set : goal.returns-then-place-set
returns-then-place-set c = limit-here _ _ _ c.if-place-set.true

pub returns : goal.returns
returns c = limit-none _ _ _ c.if-place-set.false
