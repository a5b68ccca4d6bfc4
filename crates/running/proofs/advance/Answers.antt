-- `running::advance` meets its contract: the wires that leave and enter are all that changes in the tally.
use Rattle.running.proofs.Exchanging.{next-part, exchange_asks, advanced}
use Rattle.running.proofs.advance.Goals as goal

pub step-change-requires : goal.step-change-requires
step-change-requires c = (c.requires.wires_value.1, next-part _ c.args.size c.args.probes.now c.requires.has_next.0)

pub exchanged-requires : goal.exchanged-requires
exchanged-requires c =
    let start = c.requires in
    let moved = c.step-change.ensures in
    exchange_asks _ c.args.size c.args.probes.now _ _ _ start.has_next.0 moved.set_after moved.exchanged c.args.notion _ _ start.wires_value.0 start.wires_value.2 start.has_next.1

pub returns : goal.returns
returns c =
    let start = c.requires in
    let moved = c.step-change.ensures in let all = advanced _ c.args.size c.args.probes.now _ _ _ start.has_next.0 moved.set_after moved.exchanged c.args.notion _ _ start.wires_value.0 start.wires_value.2 start.has_next.1 _ _ start.wires_value.3
    c.exchanged.ensures.sum_value c.exchanged.ensures.leaves_value in record { probes_after = all.0; kept = all.1 }
