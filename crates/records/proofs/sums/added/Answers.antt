-- `records::sums::added` meets its contract: words added without carry are added bit by bit.
use mathlib.Core.Path.{refl}
use Rattle.records.proofs.Adding.{words_added}
use Rattle.records.proofs.sums.added.Goals as goal

pub returns : goal.returns
returns c = record { result_value = words_added _ _ _ _ _ _ _ _; value = refl }
