-- `choices::leaves_masks` meets its contract: the masks count where the wire is the last one.
use Rattle.choices.proofs.Settling.{not_last, at_last}
use Rattle.choices.proofs.leaves_masks.Goals as goal

pub returns-then-left-ne1 : goal.returns-then-left-ne1
returns-then-left-ne1 c = not_last _ _ c.if-left-ne1.true

pub returns : goal.returns
returns c = at_last _ _ _ c.if-left-ne1.false c.is_masked.ensures
