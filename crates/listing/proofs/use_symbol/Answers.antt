-- `listing::use_symbol` meets its contract: a symbol that the sum of those used names makes no wire, any other one does.
use mathlib.Core.Path.{sym, ◌∙◌}
use Rattle.listing.proofs.Stepping.{used_again, used-first}
use Rattle.listing.proofs.use_symbol.Goals as goal

pub returns-then-is_in : goal.returns-then-is_in
returns-then-is_in c = let all = used_again c.args.table.now c.args.progress
    c.args.known (sym c.is_in.ensures ∙ c.if-is_in.true) in record { value = all.0; follows = all.1 }

pub returns : goal.returns
returns c = let all = used-first c.args.table.now
    c.args.progress
    c.args.known
    c.list_wire.new.table c.symbol_wire.result
    c.symbol_sum.result c.added-more.result
    (sym c.is_in.ensures
    ∙ c.if-is_in.false)
    c.symbol_wire.ensures c.list_wire.ensures
    c.symbol_sum.ensures c.added-more.ensures.value in record { value = all.0; follows = all.1 }
