-- `coverage::pass_over` meets its contract: each report in turn adds what it covers, and where none did, none covers the rank.
use Rattle.coverage.proofs.Coverage.{tried_none, tried_more, tried_all}
use Rattle.coverage.proofs.pass_over.Goals as goal

pub loop-turn-init : goal.loop-turn-init
loop-turn-init c = tried_none _ _ _ c.args.backward

pub loop-turn-preserved : goal.loop-turn-preserved
loop-turn-preserved c = tried_more _ _ _ _ _ _ _ _ c.loop-turn.invariant c.next_report-i.ensures (c.extended-reach.ensures.onward, c.extended-reach.ensures.reach_value)

pub returns : goal.returns
returns c = let all = tried_all _ _ _ _ _ _ _ c.loop-turn.invariant c.loop-turn-test.false c.through.ensures in record { onward = all.0; from_value = all.1 }
