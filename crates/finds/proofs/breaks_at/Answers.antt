-- `finds::breaks_at` meets its contract: the set looked at is the one at the rank.
use Rattle.finds.proofs.Breaking.{set-asked, set_told_lem}
use Rattle.finds.proofs.breaks_at.Goals as goal

pub set_breaks-requires : goal.set_breaks-requires
set_breaks-requires c = set-asked _ _ _ _ _ c.requires.table_len_bound.2 c.unrank.ensures

pub returns : goal.returns
returns c = set_told_lem _ _ _ _ _ c.requires.table_len_bound.2 c.unrank.ensures c.args.notion _ c.set_breaks.ensures
