-- `listing::make_outer` meets its contract: the newest record is made that of an outer wire, where it is in the table.
use Rattle.listing.proofs.Holding.{outer-none, outer_newest, outer_full}
use Rattle.listing.proofs.make_outer.Goals as goal

pub returns-then-wires-eq0 : goal.returns-then-wires-eq0
returns-then-wires-eq0 c = outer-none _ _ _ c.if-wires-eq0.true

pub returns-then-wires-le-MAX_WIRES : goal.returns-then-wires-le-MAX_WIRES
returns-then-wires-le-MAX_WIRES c = outer_newest _ _ _ _ c.if-wires-eq0.false c.write_outer.ensures

pub returns-else-wires-le-MAX_WIRES : goal.returns-else-wires-le-MAX_WIRES
returns-else-wires-le-MAX_WIRES c = outer_full _ _ _ c.if-wires-le-MAX_WIRES.false
