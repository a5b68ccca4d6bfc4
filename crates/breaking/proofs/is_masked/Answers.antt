-- `breaking::is_masked` meets its contract: a mask is left where the word of masks is not 0.
use native.Mathlib.Omega.{arith}
use Rattle.breaking.proofs.Breaking.{mask_left}
use Rattle.breaking.proofs.is_masked.Goals as goal

pub returns : goal.returns
returns c = mask_left _ _ _ _ (omega arith)
