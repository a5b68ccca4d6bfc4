-- `listing::end_line` meets its contract: the newest wire is the last addition, where there is one.
use Rattle.listing.proofs.Stepping.{line-added, line_single}
use Rattle.listing.proofs.end_line.Goals as goal

pub returns-then-progress : goal.returns-then-progress
returns-then-progress c = let all = line-added c.args.table.now
    c.args.progress c.make_outer.new.table
    c.empty_group-empty.result c.if-progress.true
    c.empty_group-empty.ensures c.make_outer.ensures in record { value = all.0; follows = all.1 }

pub returns : goal.returns
returns c = let all = line_single c.args.table.now
    c.args.progress
    c.list_wire.new.table c.empty_group-empty.result
    c.symbol_wire-wire.result
    c.if-progress.false
    c.empty_group-empty.ensures
    c.symbol_wire-wire.ensures c.list_wire.ensures in record { value = all.0; follows = all.1 }
