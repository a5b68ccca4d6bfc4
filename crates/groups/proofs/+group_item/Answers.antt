-- `groups::group` and `groups::item` meet their contracts: where the run stands before each turn, and what the other reader gave.
use Rattle.std.proofs.lemmas.Result.{err_from_is_err_and}
use native.Mathlib.Omega.{arith}
use mathlib.Core.Path.{subst}
use Prim.Native.Nat.{◌-◌}
use Rattle.listing.specs.declared.Progress.{Progress}
use Rattle.groups.specs.Going.{GroupWent, Stops}
use Rattle.groups.proofs.Entering.{item-bar, item_deep, inside_stopped, inside-closed}
use Rattle.groups.proofs.Gathering.{gone-space, gone_stopped, gone-ended, ends-closing, ends-line, ends_text}
use Rattle.groups.proofs.+group_item.Goals as goal

pub group-returns-then-byte-eq41 : goal.group-returns-then-byte-eq41
group-returns-then-byte-eq41 t c =
    let a = c.args in
    let l = c.loop-at in
    gone-ended a.shares a.declared a.text.now a.room a.table.now a.progress l.table l.here l.at l.invariant.0
    (ends-closing _ _ c.if-byte-eq41.true)

pub group-returns-then-byte-eq-LINE_END : goal.group-returns-then-byte-eq-LINE_END
group-returns-then-byte-eq-LINE_END t c =
    let a = c.args in
    let l = c.loop-at in
    gone-ended a.shares a.declared a.text.now a.room a.table.now a.progress l.table l.here l.at l.invariant.0
    (ends-line _ _ c.if-byte-eq-LINE_END.true)

pub group-loop-at-preserved-then-byte-eq32 : goal.group-loop-at-preserved-then-byte-eq32
group-loop-at-preserved-then-byte-eq32 t c =
    let a = c.args in
    let l = c.loop-at in (
      gone-space a.shares a.declared a.text.now a.room a.table.now a.progress l.table l.here l.at l.invariant.0 c.loop-at-test.true
          c.if-byte-eq32.true,
      l.invariant.1,
    )

pub group-returns : goal.group-returns
group-returns t c =
    let a = c.args in
    let l = c.loop-at in
    gone-ended a.shares a.declared a.text.now a.room a.table.now a.progress l.table l.here l.at l.invariant.0
    (ends_text _ _ c.loop-at-test.false)

pub item-returns-then-byte-eq124 : goal.item-returns-then-byte-eq124
item-returns-then-byte-eq124 t c =
    let a = c.args in
    let pre = c.requires.within in
    item-bar a.shares a.declared a.text.now a.room a.table.now a.progress pre.1 pre.2 c.if-byte-eq124.true

pub item-returns-then-byte-ne40 : goal.item-returns-then-byte-ne40
item-returns-then-byte-ne40 t c = c.symbol_item.ensures c.args.room

pub item-returns-then-room-eq0 : goal.item-returns-then-room-eq0
item-returns-then-room-eq0 t c =
    let a = c.args in
    let pre = c.requires.within in
    item_deep a.shares a.declared a.text.now a.room a.table.now a.progress pre.1 pre.2 c.if-byte-ne40.false c.if-room-eq0.true

pub group-returns-in_err-here : goal.group-returns-in_err-here
group-returns-in_err-here t c =
    let a = c.args in
    let l = c.loop-at in
    let p = err_from_is_err_and c.from_residual.result c.from_residual.ensures.1 in
    rw (p.1, p.2)
    (gone_stopped a.shares a.declared a.text.now a.room a.table.now a.progress l.table l.here l.at l.invariant.0 _ _ c.in_err-here.ensures)

pub item-returns-in_err-inner : goal.item-returns-in_err-inner
item-returns-in_err-inner t c =
    let a = c.args in
    let pre = c.requires.within in
    let fault = c.in_err-inner.field-0.0 in
    let p = err_from_is_err_and c.from_residual.result c.from_residual.ensures.1 in
    rw (p.1, p.2)
    (inside_stopped a.shares a.declared a.text.now a.room a.table.now a.progress pre.1 pre.2 c.if-byte-ne40.false c.if-room-eq0.false _ _
    (subst (λ (q : Progress). Stops a.shares a.declared a.text.now (a.room - 1) a.table.now q fault.why fault.offset)
    c.enter.ensures c.in_err-inner.ensures))

pub item-returns : goal.item-returns
item-returns t c =
    let a = c.args in
    let pre = c.requires.within in
    let w = subst
    (λ (p : Progress). GroupWent a.shares a.declared a.text.now (a.room - 1) a.table.now p c.group.new.table c.in_ok-inner.inner)
    c.enter.ensures c.in_ok-inner.ensures
    in
    inside-closed a.shares a.declared a.text.now a.room a.table.now a.progress pre.1 pre.2 c.if-byte-ne40.false c.if-room-eq0.false
    c.group.new.table c.close.new.table _ c.close.result w
    (c.close.ensures a.shares a.declared (omega (arith, w.same_lines, pre.2)))
