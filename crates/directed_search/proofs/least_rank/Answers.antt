-- `directed_search::least_rank` meets its contract: before each turn no set out of the wires below the top one breaks.
use native.Mathlib.Omega.{arith}
use borrow.Author.Rules.{rules}
use Rattle.descent.proofs.Turns.{few-wires}
use Rattle.directed_search.proofs.Tops.{all_closed, next_top, root, none_passed, top_done, top_found, all_done}
use Rattle.directed_search.proofs.least_rank.Goals as goal

pub loop-top-init : goal.loop-top-init
loop-top-init c = (all_closed, none_passed _ _ _ c.requires.table_len_bound.1, search rules)

pub bounds-marks-top : goal.bounds-marks-top
bounds-marks-top c = omega (arith, c.loop-top-test.true, few-wires c.args.table.now c.requires.table_len_bound.0)

pub wire_record-requires : goal.wire_record-requires
wire_record-requires c = c.loop-top-test.true

pub pay-requires : goal.pay-requires
pay-requires c = c.loop-top-test.true

pub overflow_sub-size : goal.overflow_sub-size
overflow_sub-size c = c.requires.table_len_bound.1

pub descend-least-requires : goal.descend-least-requires
descend-least-requires c =
    let p = c.requires in
    let few = few-wires c.args.table.now p.table_len_bound.0 in
    let taken = c.loop-top-test.true in record { counts = p.counts; table_len_bound = (p.table_len_bound.0, p.table_len_bound.2, p.table_len_bound.3); node = root _ _ c.loop-top.invariant.0 (omega (arith, taken, few)) _ _ _ few taken _ _ p.table_len_bound.1 c.wire_record.ensures c.pay.ensures.0 }

pub returns-then-least-none : goal.returns-then-least-none
returns-then-least-none c =
    let p = c.requires in
    let i = c.loop-top.invariant in
    top_found _ c.args.notion c.args.table.now _ _ _ i.0 (few-wires c.args.table.now p.table_len_bound.0) c.loop-top-test.true i.1 _ _ c.count-none.ensures c.descend-least.ensures c.if-least-none.true

pub bounds-marks-top-in-loop-top : goal.bounds-marks-top-in-loop-top
bounds-marks-top-in-loop-top c = omega (arith, c.loop-top-test.true, few-wires c.args.table.now c.requires.table_len_bound.0)

pub loop-top-preserved : goal.loop-top-preserved
loop-top-preserved c =
    let p = c.requires in
    let i = c.loop-top.invariant in
    let few = few-wires c.args.table.now p.table_len_bound.0 in
    let taken = c.loop-top-test.true in (
      next_top _ _ i.0 (omega (arith, taken, few)),
      top_done _ c.args.notion c.args.table.now _ _ _ i.0 few taken i.1 _ _ c.count-none.ensures c.descend-least.ensures c.if-least-none.false,
      omega (arith, taken),
    )

pub returns : goal.returns
returns c = let i = c.loop-top.invariant in all_done _ _ _ _ i.1 c.loop-top-test.false i.2
