-- `running::slide` meets its contract: the lowest wire leaves, and the one beside it enters.
use Rattle.running.proofs.Exchanging.{slide_asks, exchange_asks, advanced, new_lowest, less_room}
use Rattle.running.proofs.slide.Goals as goal

pub slide-enters-requires : goal.slide-enters-requires
slide-enters-requires c =
    let start = c.requires in
    slide_asks _ c.args.size c.args.probes.now _ start.wires_value.1 start.has_next.0 start.lowest_value.0 start.lowest_value.1

pub exchanged-requires : goal.exchanged-requires
exchanged-requires c =
    let start = c.requires in
    let moved = c.slide-enters.ensures in
    exchange_asks _ c.args.size c.args.probes.now _ _ _ start.has_next.0 moved.set_after moved.exchanged c.args.notion _ _ start.wires_value.0 start.wires_value.2 start.has_next.1

pub returns : goal.returns
returns c =
    let start = c.requires in
    let moved = c.slide-enters.ensures in
    let went =
    advanced _ c.args.size c.args.probes.now _ _ _ start.has_next.0 moved.set_after moved.exchanged c.args.notion _ _ start.wires_value.0 start.wires_value.2 start.has_next.1 _ _ start.wires_value.3
    c.exchanged.ensures.sum_value c.exchanged.ensures.leaves_value in record { probes_after = went.0; kept = went.1; lowest_value_2 = (new_lowest _ c.args.size c.args.probes.now _ _ _ start.has_next.0 moved.set_after moved.exchanged _ moved.value.0, less_room _ c.args.size c.args.probes.now _ _ _ start.has_next.0 moved.set_after moved.exchanged _ start.wires_value.3 moved.value.1) }
