-- `listing::take_symbol` meets its contract: the symbol is used, and then put.
use Prim.Native.Nat.{ℕ, ◌+◌}
use native.Mathlib.Omega.{arith}
use mathlib.Core.Path.{ap₂, ap}
use Rattle.records.specs.declared.sums.Sum.{Sum}
use Rattle.description.specs.declared.Item.{Item}
use Rattle.listing.specs.declared.Progress.{Progress}
use Rattle.listing.proofs.Stepping.{took-step, symbol-short, used-wires}
use borrow.Author.Rules.{rules}
use Rattle.listing.proofs.take_symbol.Goals as goal

pub overflow_add-item : goal.overflow_add-item
overflow_add-item c =
    let short = symbol-short c.args.known.symbol in
    record { fits = omega (arith, short, c.symbol_length.ensures, c.requires.first_le_place.1) }

pub put_item-requires : goal.put_item-requires
put_item-requires c =
    let a = c.args in
    let u = c.use_symbol-next.ensures.value in
    let more = used-wires a.known a.progress _ u in
    let same = ap (λ (p : Progress). p.group.first) u in record {
      table_len = (search rules, omega (arith, more, c.requires.table_len.1));
      first_le_end = omega
          (arith, same, c.requires.first_le_place.0);
    }

pub returns-clause-follows : goal.returns-clause-follows
returns-clause-follows c =
    let a = c.args in
    let u = c.use_symbol-next in
    (took-step a.table.now u.new.table c.put_item.new.table a.progress u.result c.put_item.result a.known _ u.ensures.value u.ensures.follows
    (ap₂ {C = Item} (λ (s : Sum) (n : ℕ). record { sum = s; from = a.known.place; end = a.known.place + n })
    c.symbol_sum.ensures
    c.symbol_length.ensures) c.put_item.ensures.value
    c.put_item.ensures.follows).1
