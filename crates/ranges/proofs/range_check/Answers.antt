-- `ranges::range_check` meets its contract: each refusal where its test is the first to fail, with the buffer as it was, else what the search
-- found.
use Prim.Native.Nat.{ℕ}
use native.Mathlib.Omega.{arith}
use mathlib.Core.Path.{◌≡◌}
use mathlib.Core.List.{List}
use borrow.Author.Rules.{rules}
use Rattle.std.specs.Prelude.{Result}
use Rattle.verdict_answers.specs.declared.Refusal.{Refusal}
use Rattle.verdict_answers.specs.declared.Checked.{Checked}
use Rattle.verdict_answers.specs.Answers.{range_told, range_check}
use Rattle.verdict_answers.specs.First.{RangeFinds}
use Rattle.verdict_answers.proofs.Finds.{range_finds}
use Rattle.opening.proofs.Admitting.{short}
use Rattle.ranges.proofs.Ranges.{PassedRange, range_bytes, size_large, range_room, ranks_low, ranks_high, range_clean, range_found}
use Rattle.ranges.proofs.range_check.Goals as goal

promised : {answer : Result Checked Refusal} {held table : List ℕ} {shares masks notion size from to : ℕ} (buffer : List ℕ)
    → range_told answer held ≡ range_check table shares masks notion size from to buffer
    → (range_told answer held ≡ range_check table shares masks notion size from to buffer)
    × RangeFinds answer table shares masks notion size from to buffer held
promised {answer} {held} {table} {shares} {masks} {notion} {size} {from} {to} buffer e =
    (e, range_finds table shares masks notion size from to buffer held answer e)

pub returns-then-size-gt-MAX_SIZE : goal.returns-then-size-gt-MAX_SIZE
returns-then-size-gt-MAX_SIZE c =
    let a = c.args in let all = promised a.set.now
    (size_large a.table.now a.shares a.masks a.notion a.size a.from a.to a.set.now _ c.in_ok-kind.ensures c.if-size-gt-MAX_SIZE.true) in record { set_after = all.0; range_finds = all.1 }

pub returns-then-set-size : goal.returns-then-set-size
returns-then-set-size c =
    let a = c.args in let all = promised a.set.now
    (range_room a.table.now a.shares a.masks a.notion a.size a.from a.to a.set.now _ c.in_ok-kind.ensures c.if-size-gt-MAX_SIZE.false
    c.if-set-size.true) in record { set_after = all.0; range_finds = all.1 }

pub count-all-requires : goal.count-all-requires
count-all-requires c =
    let a = c.args in
    let most = short a.table.now a.shares a.masks a.notion _ c.in_ok-kind.ensures in record { counts = search rules; n_le_max_wires = search rules }

pub returns-then-to-from : goal.returns-then-to-from
returns-then-to-from c =
    let a = c.args in let all = promised a.set.now
    (ranks_low a.table.now a.shares a.masks a.notion a.size a.from a.to a.set.now _ c.in_ok-kind.ensures c.if-size-gt-MAX_SIZE.false
    c.if-set-size.false c.if-to-from.true) in record { set_after = all.0; range_finds = all.1 }

pub returns-then-all-to : goal.returns-then-all-to
returns-then-all-to c =
    let a = c.args in let all = promised a.set.now
    (ranks_high a.table.now a.shares a.masks a.notion a.size a.from a.to a.set.now _ c.in_ok-kind.ensures c.if-size-gt-MAX_SIZE.false
    c.if-set-size.false c.if-to-from.false
    (omega (arith, c.count-all.ensures, c.if-all-to.true))) in record { set_after = all.0; range_finds = all.1 }

pub first_rank-requires : goal.first_rank-requires
first_rank-requires c =
    let a = c.args in
    let p : PassedRange a.table.now a.shares a.masks a.notion a.size a.from a.to a.set.now c.in_ok-kind.kind = record {
      told = c.in_ok-kind.ensures;
      small = c.if-size-gt-MAX_SIZE.false;
      room = c.if-set-size.false;
      rises = c.if-to-from.false;
      ends = omega (arith, c.count-all.ensures, c.if-all-to.false);
    } in
    record { counts = search rules; table_len_bound = (range_bytes _ _ _ _ _ _ _ _ _ p, search rules, search rules, search rules, p.ends) }

pub returns-in-None : goal.returns-in-None
returns-in-None c =
    let a = c.args in
    let p : PassedRange a.table.now a.shares a.masks a.notion a.size a.from a.to a.set.now c.in_ok-kind.kind = record {
      told = c.in_ok-kind.ensures;
      small = c.if-size-gt-MAX_SIZE.false;
      room = c.if-set-size.false;
      rises = c.if-to-from.false;
      ends = omega (arith, c.count-all.ensures, c.if-all-to.false);
    } in
    let all = promised a.set.now
    (range_clean _ _ _ _ _ _ _ _ _ p c.first_rank.new.probes c.in-None.ensures) in record { set_after = all.0; range_finds = all.1 }

pub returns-in-Some : goal.returns-in-Some
returns-in-Some c =
    let a = c.args in
    let p : PassedRange a.table.now a.shares a.masks a.notion a.size a.from a.to a.set.now c.in_ok-kind.kind = record {
      told = c.in_ok-kind.ensures;
      small = c.if-size-gt-MAX_SIZE.false;
      room = c.if-set-size.false;
      rises = c.if-to-from.false;
      ends = omega (arith, c.count-all.ensures, c.if-all-to.false);
    } in
    let all = promised a.set.now
    (range_found _ _ _ _ _ _ _ _ _ p _ _ c.in-Some.ensures _ c.write.ensures) in record { set_after = all.0; range_finds = all.1 }
