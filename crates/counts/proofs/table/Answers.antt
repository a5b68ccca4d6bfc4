-- `counts::table` meets its contract: Pascal's rule is a test over the whole table, which antt computes.
use mathlib.Core.Path.{refl}
use Rattle.counts.proofs.Rows.{pascal_counts}
use Rattle.counts.proofs.table.Goals as goal

pub returns : goal.returns
returns c = pascal_counts _ refl
