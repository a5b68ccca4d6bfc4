-- `carriers::lowest_mask` meets its contract: a word that is not 0 has a lowest bit.
use native.Mathlib.Omega.{arith}
use Rattle.carriers.proofs.Masks.{lowest-mask}
use Rattle.carriers.proofs.lowest_mask.Goals as goal

pub returns : goal.returns
returns c = lowest-mask _ _ _ _ (omega arith) c.requires
