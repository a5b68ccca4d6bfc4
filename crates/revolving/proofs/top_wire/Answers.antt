-- `revolving::top_wire` meets its contract: the count at `low` is at most the rank and that at `high` above it, until the two are neighbours.
use borrow.Author.Rules.{rules}
use Rattle.revolving.proofs.Unranking.{top_start, top_found}
use Rattle.revolving.proofs.top_wire.Goals as goal

pub loop-high-init : goal.loop-high-init
loop-high-init c =
    let start = top_start c.args.n c.args.k c.args.r c.requires.n_le_max_wires.2 c.requires.n_le_max_wires.3 in
    (start.0, search rules, start.1, c.requires.n_le_max_wires.3)

pub returns : goal.returns
returns c =
    let l = c.loop-high in
    let a = c.args in
    top_found a.n a.k a.r l.low l.high l.invariant.0 l.invariant.1 c.loop-high-test.false l.invariant.2 l.invariant.3
