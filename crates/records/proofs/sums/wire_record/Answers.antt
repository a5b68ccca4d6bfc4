-- `records::sums::wire_record` meets its contract: the words read are the fields of the wire's record.
use mathlib.Core.Path.{refl}
use Rattle.records.proofs.Adding.{words_of_record}
use Rattle.records.proofs.sums.wire_record.Goals as goal

pub returns : goal.returns
returns c =
    words_of_record _ _ _ _ _ _ c.requires c.word.ensures
    c.word-2.ensures refl refl
