-- `reader::read_text` meets its contract: what was read into the code's own table is copied where there is room, and nothing else is written.
use Rattle.std.proofs.lemmas.Result.{err_from_is_err_and}
use Rattle.reader.proofs.Telling.{read-refused, read_short, read_copied, promised}
use borrow.Author.Rules.{rules}
use Rattle.reader.proofs.read_text.Goals as goal

pub overflow_mul-size : goal.overflow_mul-size
overflow_mul-size c = let few = c.in_ok-reading.ensures.few in search rules

pub copy-requires : goal.copy-requires
copy-requires c = let few = c.in_ok-reading.ensures.few in search rules

pub returns-in_err-reading : goal.returns-in_err-reading
returns-in_err-reading c =
    let a = c.args in
    let p = err_from_is_err_and c.from_residual.result c.from_residual.ensures.1 in
    let all = promised a.text.now a.table.now _ _ (read-refused a.text.now a.table.now _ _ c.in_err-reading.ensures) in
    rw (p.1, p.2) (record { table_after = all.0; reads_grammar = all.1 })

pub returns-then-table-size : goal.returns-then-table-size
returns-then-table-size c =
    let a = c.args in
    let all = promised a.text.now a.table.now _ _
    (read_short a.text.now a.table.now c.read_scratch.new.scratch _ _ _ _ c.in_ok-reading.ensures c.if-table-size.true)
    in record { table_after = all.0; reads_grammar = all.1 }

pub returns : goal.returns
returns c =
    let a = c.args in
    let all = promised a.text.now a.table.now _ _
    (read_copied a.text.now a.table.now c.read_scratch.new.scratch _ _ _ _ c.in_ok-reading.ensures
    c.copy.new.table c.if-table-size.false c.copy.ensures)
    in record { table_after = all.0; reads_grammar = all.1 }
