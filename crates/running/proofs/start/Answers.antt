-- `running::start` meets its contract: the tally is made from the set that was written.
use Rattle.running.proofs.Exchanging.{started_inside, started, not_started}
use Rattle.running.proofs.start.Goals as goal

pub returns-then-count-rank : goal.returns-then-count-rank
returns-then-count-rank c = not_started _ _ _ _ c.count.ensures c.if-count-rank.true

pub sum_of_set-requires : goal.sum_of_set-requires
sum_of_set-requires c = started_inside c.args.notion _ _ _ _ _ _ _ c.requires.wires_value.0 c.count.ensures c.if-count-rank.false c.unrank.ensures

pub payers-requires : goal.payers-requires
payers-requires c = started_inside c.args.notion _ _ _ _ _ _ _ c.requires.wires_value.0 c.count.ensures c.if-count-rank.false c.unrank.ensures

pub returns : goal.returns
returns c =
    started c.args.notion _ _ _ _ _ _ _ c.requires.wires_value.0 c.count.ensures c.if-count-rank.false c.unrank.ensures _
    c.sum_of_set.ensures.result_value c.sum_of_set.ensures.sum_of_values c.payers.ensures
