-- `shares::ones::count` meets its contract: the entry at a word is how many ones it has.
use mathlib.Core.Path.{◌∙◌}
use Rattle.shares.proofs.Shares.{ones_read}
use Rattle.shares.proofs.ones.count.Goals as goal

pub bounds-table-word : goal.bounds-table-word
bounds-table-word c = c.requires.1

pub returns : goal.returns
returns c = c.from.ensures ∙ ones_read _ _ c.requires.0 c.requires.1
