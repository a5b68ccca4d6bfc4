-- `judging::judge` meets its contract: each refusal where its test is the first to fail, with the buffer as it was, else what the search found.
use Prim.Native.Nat.{ℕ}
use mathlib.Core.Path.{◌≡◌}
use mathlib.Core.List.{List}
use borrow.Author.Rules.{rules}
use Rattle.std.specs.Prelude.{Result}
use Rattle.verdict_answers.specs.declared.Refusal.{Refusal}
use Rattle.verdict_answers.specs.declared.Judged.{Judged}
use Rattle.verdict_answers.specs.Answers.{verdict_told, verdict_of}
use Rattle.verdict_answers.specs.First.{VerdictFinds}
use Rattle.verdict_answers.specs.Guarantee.{Guarantee}
use Rattle.verdict_answers.proofs.Finds.{verdict_finds}
use Rattle.judging.proofs.Entries.{Promise, Passed, order-low, order-high, no_room, found_none, found-set, bytes, order_small, size_within}
use Rattle.judging.proofs.judge.Goals as goal

promised : {answer : Result Judged Refusal} {held table : List ℕ} {shares masks notion order : ℕ} {buffer : List ℕ}
    → Promise answer held table shares masks notion order buffer
    → (verdict_told answer held ≡ verdict_of table shares masks notion order buffer)
    × (VerdictFinds answer table shares masks notion order buffer held × Guarantee answer table shares masks notion order held)
promised {answer} {held} {table} {shares} {masks} {notion} {order} {buffer} p =
    (p.equation, (verdict_finds table shares masks notion order buffer held answer p.equation, p.guarantee))

pub returns-then-order-lt1 : goal.returns-then-order-lt1
returns-then-order-lt1 g c =
    let a = c.args in let all = promised (order-low a.table.now a.shares a.masks a.notion a.order a.set.now _ c.in_ok-kind.ensures c.if-order-lt1.true) in record { set_after = all.0; verdict_finds = all.1.0; guarantee = all.1.1 }

pub returns-then-shares-order : goal.returns-then-shares-order
returns-then-shares-order g c =
    let a = c.args in let all = promised (order-high a.table.now a.shares a.masks a.notion a.order a.set.now _ c.in_ok-kind.ensures c.if-shares-order.true) in record { set_after = all.0; verdict_finds = all.1.0; guarantee = all.1.1 }

pub returns-then-set-order : goal.returns-then-set-order
returns-then-set-order g c =
    let a = c.args in let all = promised (no_room a.table.now a.shares a.masks a.notion a.order a.set.now _ c.in_ok-kind.ensures c.if-order-lt1.false
    c.if-shares-order.false c.if-set-order.true) in record { set_after = all.0; verdict_finds = all.1.0; guarantee = all.1.1 }

pub first_set-requires : goal.first_set-requires
first_set-requires g c =
    let a = c.args in
    let p : Passed a.table.now a.shares a.masks a.notion a.order a.set.now c.in_ok-kind.kind = record {
      told = c.in_ok-kind.ensures;
      low = c.if-order-lt1.false;
      high = c.if-shares-order.false;
      room = c.if-set-order.false;
    } in
    let most = bytes _ _ _ _ _ _ _ p in
    let few = order_small _ _ _ _ _ _ _ p in
    search rules

pub returns-in-None : goal.returns-in-None
returns-in-None g c =
    let a = c.args in
    let p : Passed a.table.now a.shares a.masks a.notion a.order a.set.now c.in_ok-kind.kind = record {
      told = c.in_ok-kind.ensures;
      low = c.if-order-lt1.false;
      high = c.if-shares-order.false;
      room = c.if-set-order.false;
    } in
    let all = promised (found_none _ _ _ _ _ _ _ p c.first_set.new.probes c.in-None.ensures) in record { set_after = all.0; verdict_finds = all.1.0; guarantee = all.1.1 }

pub write-requires : goal.write-requires
write-requires g c =
    let a = c.args in
    let p : Passed a.table.now a.shares a.masks a.notion a.order a.set.now c.in_ok-kind.kind = record {
      told = c.in_ok-kind.ensures;
      low = c.if-order-lt1.false;
      high = c.if-shares-order.false;
      room = c.if-set-order.false;
    } in
    let most = size_within _ _ _ _ _ _ _ p c.first_set.new.probes _ c.in-Some.ensures in
    let few = order_small _ _ _ _ _ _ _ p in
    search rules

pub returns-in-Some : goal.returns-in-Some
returns-in-Some g c =
    let a = c.args in
    let p : Passed a.table.now a.shares a.masks a.notion a.order a.set.now c.in_ok-kind.kind = record {
      told = c.in_ok-kind.ensures;
      low = c.if-order-lt1.false;
      high = c.if-shares-order.false;
      room = c.if-set-order.false;
    } in
    let all = promised (found-set _ _ _ _ _ _ _ p c.first_set.new.probes _ c.in-Some.ensures _ c.write.ensures) in record { set_after = all.0; verdict_finds = all.1.0; guarantee = all.1.1 }
