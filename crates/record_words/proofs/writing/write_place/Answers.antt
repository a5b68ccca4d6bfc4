-- `record_words::writing::write_place` meets its contract: the four numbers stand one after the other.
use mathlib.Core.Path.{◌∙◌}
use Rattle.records.proofs.Words.{byte-once}
use Rattle.record_words.proofs.Written.{place_written}
use Rattle.record_words.proofs.writing.write_place.Goals as goal

pub returns : goal.returns
returns c =
    let a = c.args in
    place_written a.table.now c.write_number.new.table c.write_number-2.new.table c.write_number-3.new.table
    c.write_number-4.new.table a.at a.outer a.line a.offset a.size c.from.result (c.from.ensures ∙ (byte-once _).0) c.write_number.ensures
    c.write_number-2.ensures c.write_number-3.ensures c.write_number-4.ensures
