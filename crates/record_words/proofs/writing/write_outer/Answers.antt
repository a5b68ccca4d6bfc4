-- `record_words::writing::write_outer` meets its contract: the two numbers stand one after the other.
use Rattle.record_words.proofs.Written.{outer-written}
use Rattle.record_words.proofs.writing.write_outer.Goals as goal

pub returns : goal.returns
returns c =
    let a = c.args in
    outer-written a.table.now c.write_number.new.table c.write_number-2.new.table _ a.line c.write_number.ensures
    c.write_number-2.ensures
