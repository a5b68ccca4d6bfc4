-- `records::sums::nothing` meets its contract: 0 has no bit.
use mathlib.Core.Path.{refl}
use Rattle.records.proofs.Adding.{words_zero}
use Rattle.records.proofs.sums.nothing.Goals as goal

pub returns : goal.returns
returns c = record { result_value = words_zero; value = refl }
