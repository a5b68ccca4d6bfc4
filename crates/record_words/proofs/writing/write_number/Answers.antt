-- `record_words::writing::write_number` meets its contract: before each turn, writing the bytes that are left gives what is to be written.
use mathlib.Core.Path.{refl}
use borrow.Author.Rules.{rules}
use Rattle.record_words.proofs.Written.{bytes-start, bytes_more, bytes-all}
use Rattle.record_words.proofs.writing.write_number.Goals as goal

pub loop-i-init : goal.loop-i-init
loop-i-init c = let a = c.args in (bytes-start a.table.now a.at a.size a.number, refl, search rules)

pub loop-i-preserved : goal.loop-i-preserved
loop-i-preserved c =
    let a = c.args in
    let l = c.loop-i in
    (bytes_more a.table.now a.at a.size a.number l.table l.rest l.i (search rules) l.invariant.0, search rules, search rules)

pub returns : goal.returns
returns c =
    let a = c.args in
    let l = c.loop-i in
    bytes-all a.table.now a.at a.size a.number l.table l.rest l.i (search rules) l.invariant.0
