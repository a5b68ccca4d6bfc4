-- `record_words::writing::write_record` meets its contract: the sum, and after it the place.
use Rattle.record_words.proofs.Written.{record_written}
use Rattle.record_words.proofs.writing.write_record.Goals as goal

pub returns : goal.returns
returns c =
    let a = c.args in
    record_written a.table.now c.write_sum.new.table c.write_place.new.table _
    a.sum a.outer a.line a.offset a.size c.write_sum.ensures
    c.write_place.ensures
