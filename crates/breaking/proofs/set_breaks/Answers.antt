-- `breaking::set_breaks` meets its contract: what is tested is the sum of the set and how many of its wires pay.
use Rattle.breaking.proofs.Breaking.{set_tested}
use Rattle.breaking.proofs.set_breaks.Goals as goal

pub returns : goal.returns
returns c = set_tested c.args.notion _ _ _ _ c.sum_of_set.ensures.result_value c.payers.ensures c.sum_breaks.ensures
