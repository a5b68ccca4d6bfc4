-- `table::table_check` meets its contract: each refusal where its test is the first to fail.
use Prim.Native.Nat.{◌%◌}
use native.Mathlib.Omega.{arith}
use mathlib.Core.Path.{sym, ◌∙◌}
use mathlib.Core.Bool.{true, false}
use borrow.Author.Tests.{lt-ltb, le-ltb, eq-eqb, ne_eqb}
use lib.ListN.{length}
use Rattle.limits.specs.Limits.{min_shares, max_shares, max_masks, record_bytes, max_table_bytes}
use Rattle.table.proofs.Entries.{records_decide}
use Rattle.table.proofs.table_check.Goals as goal

pub returns-then-shares-lt-MIN_SHARES : goal.returns-then-shares-lt-MIN_SHARES
returns-then-shares-lt-MIN_SHARES c = let a = c.args in simp (lt-ltb a.shares min_shares (omega arith))

pub returns-then-shares-gt-MAX_SHARES : goal.returns-then-shares-gt-MAX_SHARES
returns-then-shares-gt-MAX_SHARES c = let a = c.args in simp (le-ltb a.shares min_shares (omega arith), lt-ltb max_shares a.shares (omega arith))

pub returns-then-masks-gt-MAX_MASKS : goal.returns-then-masks-gt-MAX_MASKS
returns-then-masks-gt-MAX_MASKS c =
    let a = c.args in
    simp (le-ltb a.shares min_shares (omega arith), le-ltb max_shares a.shares (omega arith), lt-ltb max_masks a.masks (omega arith))

pub returns-then-table-ne0 : goal.returns-then-table-ne0
returns-then-table-ne0 c =
    let a = c.args in
    simp (
      le-ltb a.shares min_shares (omega arith),
      le-ltb max_shares a.shares (omega arith),
      le-ltb max_masks a.masks (omega arith),
      ne_eqb
          (length a.table.now % record_bytes) 0 c.if-table-ne0.true,
    )

pub returns-then-table-gt-MAX_TABLE_BYTES : goal.returns-then-table-gt-MAX_TABLE_BYTES
returns-then-table-gt-MAX_TABLE_BYTES c =
    let a = c.args in
    simp (
      le-ltb a.shares min_shares (omega arith),
      le-ltb max_shares a.shares (omega arith),
      le-ltb max_masks a.masks (omega arith),
      eq-eqb
          (length a.table.now % record_bytes) 0 (omega arith),
      lt-ltb max_table_bytes (length a.table.now) (omega arith),
    )

pub returns-then-not-records_fit : goal.returns-then-not-records_fit
returns-then-not-records_fit c =
    let a = c.args in
    records_decide a.table.now a.shares a.masks true (omega arith) (omega arith) (omega arith) (omega arith) (omega arith)
    (sym (c.if-not-records_fit.true) ∙ c.records_fit.ensures)

pub returns : goal.returns
returns c =
    let a = c.args in
    records_decide a.table.now a.shares a.masks false (omega arith) (omega arith) (omega arith) (omega arith) (omega arith)
    (sym (c.if-not-records_fit.false) ∙ c.records_fit.ensures)
