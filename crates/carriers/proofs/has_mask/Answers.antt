-- `carriers::has_mask` meets its contract: bit k of a word is its digit after k halvings.
use mathlib.Core.Path.{refl}
use Rattle.records.specs.Words.{bit}
use Rattle.carriers.proofs.has_mask.Goals as goal

pub returns : goal.returns
unfolding bit
returns c = refl
