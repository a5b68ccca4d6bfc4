-- `groups::symbol_item` meets its contract: the longest run is read, and the run of the text stops or goes on with it.
use native.Mathlib.Omega.{arith}
use Rattle.groups.proofs.Reaching.{word_fits, word_some, symbol-small, symbol_went, symbol_wrong}
use borrow.Author.Rules.{rules}
use Rattle.groups.proofs.symbol_item.Goals as goal

pub overflow_add-at : goal.overflow_add-at
overflow_add-at c =
    let fits = word_fits _ _ _ c.requires.within.0.inside c.word_size-size.ensures in
    record { fits = omega (arith, fits, c.requires.sized.text_size) }

pub symbol_of-requires : goal.symbol_of-requires
symbol_of-requires c = word_some _ _ _ c.requires.within.1 c.requires.at_value
    c.word_size-size.ensures

pub take_symbol-requires : goal.take_symbol-requires
take_symbol-requires c =
    let a = c.args in
    let pre = c.requires in
    let small = symbol-small a.shares a.declared a.text.now a.table.now a.progress pre.sized.most pre.within.0 pre.within.1
    pre.within.2 pre.at_value
    c.word_size-size.result c.word_size-size.ensures
    c.symbol_of.result _ c.symbol_of.ensures
    c.in-Ok.is in
    let w = pre.within.0 in record { table_len = (search rules, omega (arith, w.few, w.inside, pre.sized.text_size, pre.sized.most, pre.within.2), small); first_le_place = (w.begun, omega (arith, w.inside, pre.sized.text_size)) }

pub slice_bounds-symbol_of-end : goal.slice_bounds-symbol_of-end
slice_bounds-symbol_of-end c =
    let fits = word_fits _ _ _ c.requires.within.0.inside c.word_size-size.ensures in search rules

pub returns-in-Ok : goal.returns-in-Ok
returns-in-Ok c =
    let a = c.args in
    let pre = c.requires in
    symbol_went a.shares a.declared a.text.now a.table.now a.progress pre.sized.most pre.within.0 pre.within.1 pre.within.2
    pre.at_value
    c.word_size-size.result
    c.word_size-size.ensures
    c.symbol_of.result _
    c.symbol_of.ensures c.in-Ok.is
    c.take_symbol.new.table
    c.take_symbol.result c.take_symbol.ensures.value c.take_symbol.ensures.follows

pub returns-in-Err : goal.returns-in-Err
returns-in-Err c =
    let a = c.args in
    let pre = c.requires in
    λ room. rw c.from.ensures
    (symbol_wrong a.shares a.declared a.text.now a.table.now a.progress pre.sized.most pre.within.0 pre.within.1 pre.within.2
    pre.at_value
    c.word_size-size.result c.word_size-size.ensures
    c.symbol_of.result _ c.symbol_of.ensures c.in-Err.is room)
