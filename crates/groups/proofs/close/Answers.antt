-- `groups::close` meets its contract: a closing parenthesis after an item, else the refusal at its place.
use native.Mathlib.Omega.{arith}
use borrow.Author.Tests.{not-true, not-false}
use Rattle.groups.proofs.Closing.{close_at_end, close_at_line, close_empty, close_went}
use Rattle.groups.proofs.close.Goals as goal

pub returns-then-at-text : goal.returns-then-at-text
returns-then-at-text c = close_at_end _ _ _ _ _ c.args.table.now c.if-at-text.true

pub returns-then-text-at-ne41 : goal.returns-then-text-at-ne41
returns-then-text-at-ne41 c =
    let pre = c.requires in
    close_at_line _ _ _ _ _ c.args.table.now (omega (arith, c.if-at-text.false, pre.within.0.inside)) c.if-text-at-ne41.true pre.within.1

pub returns-then-not-group : goal.returns-then-not-group
returns-then-not-group c =
    let pre = c.requires in
    close_empty _ _ _ _ _ c.args.table.now (omega (arith, c.if-at-text.false, pre.within.0.inside)) c.if-text-at-ne41.false
    (not-true _ c.if-not-group.true)

pub returns : goal.returns
returns c =
    let pre = c.requires.within in
    close_went _ _ _ _ _ _ _ pre.0 (omega (arith, c.if-at-text.false, pre.0.inside)) c.if-text-at-ne41.false
    (not-false _ c.if-not-group.false) pre.2 pre.3 c.put_item.ensures.value c.put_item.ensures.follows
