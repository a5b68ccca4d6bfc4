-- `table::tests::record_fits` meets its contract: first the bits beyond, then the byte of inner or outer.
use Rattle.table.proofs.Records.{bits_beyond, then_the_kind}
use Rattle.table.proofs.tests.record_fits.Goals as goal

pub returns-then-not-is_within : goal.returns-then-not-is_within
returns-then-not-is_within c =
    bits_beyond _ _ _ _ c.wire_record.result c.requires c.wire_record.ensures _
    c.is_within.ensures (c.if-not-is_within.true)

pub returns : goal.returns
returns c =
    then_the_kind _ _ _ _ c.wire_record.result c.requires
    c.wire_record.ensures _ c.is_within.ensures (c.if-not-is_within.false)
