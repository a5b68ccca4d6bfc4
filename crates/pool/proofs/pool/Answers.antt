-- `pool::pool` meets its contract: each refusal where its test is the first to fail, then what was found first, what is covered, and holds.
use Rattle.pool.proofs.Pooling.{promised, bytes, none-misfiled, findable, find_false, found_first, first_missing, none_missing}
use Rattle.pool.proofs.pool.Goals as goal

pub all_break-requires : goal.all_break-requires
all_break-requires c =
    let a = c.args in record { counts = c.table-counts.ensures; table_len_bound = (bytes a.table.now a.shares a.masks a.notion a.order a.reports.now c.in_ok-kind.kind (record { told = c.in_ok-kind.ensures; low = c.if-order-lt1.false; high = c.if-shares-order.false }), findable a.table.now a.shares a.masks a.notion a.order a.reports.now c.in_ok-kind.kind (record { told = c.in_ok-kind.ensures; low = c.if-order-lt1.false; high = c.if-shares-order.false }) c.if-reports-ne0.false _ c.all_filed.ensures c.if-not-all_filed.false) }

pub returns-then-not-all_break : goal.returns-then-not-all_break
returns-then-not-all_break c =
    let a = c.args in let all = promised a.table.now a.shares a.masks a.notion a.order a.reports.now _ (find_false a.table.now a.shares a.masks a.notion a.order a.reports.now c.in_ok-kind.kind (record { told = c.in_ok-kind.ensures; low = c.if-order-lt1.false; high = c.if-shares-order.false }) c.if-reports-ne0.false _ c.all_filed.ensures c.if-not-all_filed.false _ c.all_break.ensures c.if-not-all_break.true) in record { result_value = all.0; pool_says = all.1.0; pool_agrees = all.1.1 }

pub returns-in-Some : goal.returns-in-Some
returns-in-Some c =
    let a = c.args in let all = promised a.table.now a.shares a.masks a.notion a.order a.reports.now _ (found_first a.table.now a.shares a.masks a.notion a.order a.reports.now c.in_ok-kind.kind (record { told = c.in_ok-kind.ensures; low = c.if-order-lt1.false; high = c.if-shares-order.false }) c.if-reports-ne0.false _ c.all_filed.ensures c.if-not-all_filed.false _ c.all_break.ensures c.if-not-all_break.false _ _ (c.in-Some.ensures _ _ _ (none-misfiled a.table.now a.shares a.masks a.notion a.order a.reports.now c.in_ok-kind.kind (record { told = c.in_ok-kind.ensures; low = c.if-order-lt1.false; high = c.if-shares-order.false }) c.if-reports-ne0.false _ c.all_filed.ensures c.if-not-all_filed.false))) in record { result_value = all.0; pool_says = all.1.0; pool_agrees = all.1.1 }

pub returns-in-Some-first_uncovered : goal.returns-in-Some-first_uncovered
returns-in-Some-first_uncovered c =
    let a = c.args in let all = promised a.table.now a.shares a.masks a.notion a.order a.reports.now _ (first_missing a.table.now a.shares a.masks a.notion a.order a.reports.now c.in_ok-kind.kind (record { told = c.in_ok-kind.ensures; low = c.if-order-lt1.false; high = c.if-shares-order.false }) c.if-reports-ne0.false _ c.all_filed.ensures c.if-not-all_filed.false _ c.all_break.ensures c.if-not-all_break.false (c.in_default.ensures _ _ _ (none-misfiled a.table.now a.shares a.masks a.notion a.order a.reports.now c.in_ok-kind.kind (record { told = c.in_ok-kind.ensures; low = c.if-order-lt1.false; high = c.if-shares-order.false }) c.if-reports-ne0.false _ c.all_filed.ensures c.if-not-all_filed.false)) _ _ c.in-Some-first_uncovered.ensures) in record { result_value = all.0; pool_says = all.1.0; pool_agrees = all.1.1 }

pub returns : goal.returns
returns c =
    let a = c.args in let none = c.in_default.ensures _ _ _ (none-misfiled a.table.now a.shares a.masks a.notion a.order a.reports.now c.in_ok-kind.kind (record { told = c.in_ok-kind.ensures; low = c.if-order-lt1.false; high = c.if-shares-order.false }) c.if-reports-ne0.false _ c.all_filed.ensures c.if-not-all_filed.false) in let all = promised a.table.now a.shares a.masks a.notion a.order a.reports.now _ (none_missing a.table.now a.shares a.masks a.notion a.order a.reports.now c.in_ok-kind.kind (record { told = c.in_ok-kind.ensures; low = c.if-order-lt1.false; high = c.if-shares-order.false }) c.if-reports-ne0.false _ c.all_filed.ensures c.if-not-all_filed.false _ c.all_break.ensures c.if-not-all_break.false none c.in_default-first_uncovered.ensures) in record { result_value = all.0; pool_says = all.1.0; pool_agrees = all.1.1 }
