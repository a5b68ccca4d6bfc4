-- `listing::list_wire` meets its contract: while there is room the record is written, then wires are only counted.
use Rattle.listing.proofs.Holding.{lists_record, lists_full}
use Rattle.listing.proofs.list_wire.Goals as goal

pub returns-then-wires-lt-MAX_WIRES : goal.returns-then-wires-lt-MAX_WIRES
returns-then-wires-lt-MAX_WIRES c = lists_record _ _ _ _ c.if-wires-lt-MAX_WIRES.true c.requires
    c.write_record.ensures

pub returns-else-wires-lt-MAX_WIRES : goal.returns-else-wires-lt-MAX_WIRES
returns-else-wires-lt-MAX_WIRES c = lists_full _ _ _ c.if-wires-lt-MAX_WIRES.false
