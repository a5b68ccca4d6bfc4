-- `opening::opening` meets its contract: after the table's tests the notion of the number, or 14.
use mathlib.Core.Path.{sym}
use Rattle.std.proofs.lemmas.Result.{err_from_is_err_and}
use Rattle.wires.specs.declared.Notion.TheVariants.{Ni, Sni}
use Rattle.opening.proofs.Admitting.{open_known, open_wrong}
use Rattle.opening.proofs.opening.Goals as goal

pub returns : goal.returns
returns c =
    let a = c.args in
    open_known a.table.now a.shares a.masks a.notion c.in_ok-table_check.ensures _ (sym c.in_ok-try_from.ensures)

pub returns-in_err-try_from : goal.returns-in_err-try_from
returns-in_err-try_from c =
    let a = c.args in
    let p = err_from_is_err_and c.from_residual-in_err-try_from.result c.from_residual-in_err-try_from.ensures.1 in
    rw (p.1, p.2) (open_wrong a.table.now a.shares a.masks a.notion c.in_ok-table_check.ensures
    (λ e. c.in_err-try_from.ensures Ni (sym e)) (λ e. c.in_err-try_from.ensures Sni (sym e)))
