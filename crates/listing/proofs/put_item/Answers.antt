-- `listing::put_item` meets its contract: the first item begins the group, any other is added and lists a wire.
use native.Mathlib.Omega.{arith}
use borrow.Author.Tests.{not-true, not-false}
use Rattle.listing.proofs.Stepping.{put_first, put-added}
use Rattle.listing.proofs.put_item.Goals as goal

pub overflow_add-next : goal.overflow_add-next
overflow_add-next c =
    record { fits = omega (arith, c.requires.table_len.1) }

pub returns-then-not-group-clause-follows : goal.returns-then-not-group-clause-follows
returns-then-not-group-clause-follows c = (put_first c.args.table.now c.args.progress c.args.item (not-true _ c.if-not-group.true)).1

pub returns-clause-follows : goal.returns-clause-follows
returns-clause-follows c =
    let a = c.args in
    (put-added a.table.now a.progress a.item c.list_wire.new.table c.added-total.result (not-false _ c.if-not-group.false) c.added-total.ensures.value c.list_wire.ensures).1
