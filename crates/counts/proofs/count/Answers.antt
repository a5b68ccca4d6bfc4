-- `counts::count` meets its contract: it reads the entry that the table's rule speaks of.
use Rattle.counts.specs.Counts.{Counts}
use borrow.Author.Rules.{rules}
use Rattle.counts.proofs.count.Goals as goal

pub returns : goal.returns
unfolding Counts
returns c = c.requires.counts c.args.n c.args.k c.requires.n_le_max_wires.0 c.requires.n_le_max_wires.1
