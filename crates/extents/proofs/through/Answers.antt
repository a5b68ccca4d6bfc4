-- `extents::through` meets its contract: each report that is tried adds ranks that it covers.
use Rattle.extents.proofs.Extents.{onward_none, onward_join}
use Rattle.extents.proofs.through.Goals as goal

pub loop-kept-init : goal.loop-kept-init
loop-kept-init c = onward_none _ _ _

pub loop-kept-preserved : goal.loop-kept-preserved
loop-kept-preserved c = onward_join _ _ _ _ _ c.loop-kept.invariant c.extended-reach.ensures.onward
