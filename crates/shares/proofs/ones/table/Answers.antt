-- `shares::ones::table` meets its contract: it holds the ones of every word, by a test over the whole table that antt computes.
use mathlib.Core.Path.{refl}
use lib.Count.{ones}
use Rattle.basics.specs.Folds.{up_to}
use Rattle.shares.proofs.Shares.{ones_hold}
use Rattle.shares.proofs.ones.table.Goals as goal

pub returns : goal.returns
unfolding ones up_to
returns c = ones_hold _ refl
