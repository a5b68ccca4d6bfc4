-- `carriers::highest_with` meets its contract.
use Rattle.carriers.proofs.Rows.{wire_carries, wire_passed}
use Rattle.carriers.proofs.highest_with.Goals as goal

pub returns-then-has_mask : goal.returns-then-has_mask
returns-then-has_mask c = wire_carries _ _ _ _ _ _ c.has_mask.ensures c.wire_record.ensures c.if-has_mask.true

pub returns : goal.returns
returns c = wire_passed _ _ _ c.args.wire _ _ c.has_mask.ensures c.wire_record.ensures c.if-has_mask.false
