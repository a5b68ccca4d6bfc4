-- `records::sums::with_wire` meets its contract: the words read are the fields of the wire's record, and they are added bit by bit.
use mathlib.Core.Path.{refl}
use Rattle.records.proofs.Adding.{record_added}
use Rattle.records.proofs.sums.with_wire.Goals as goal

pub returns : goal.returns
returns c =
    record_added _ _ _ _ _ _ _ _ _ _ c.requires c.word.ensures
    c.word-2.ensures refl refl
