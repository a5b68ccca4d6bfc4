-- `record_words::writing::write_sum` meets its contract: the four numbers stand one after the other.
use Rattle.record_words.proofs.Written.{sum-written}
use Rattle.record_words.proofs.writing.write_sum.Goals as goal

pub returns : goal.returns
returns c =
    let a = c.args in
    sum-written a.table.now c.write_number.new.table c.write_number-2.new.table c.write_number-3.new.table
    c.write_number-4.new.table a.at a.sum c.from.result c.from-2.result c.from.ensures
    c.from-2.ensures c.write_number.ensures c.write_number-2.ensures c.write_number-3.ensures
    c.write_number-4.ensures
