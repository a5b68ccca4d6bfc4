-- `plan_text::check_size` meets its contract: reading's figures and the set counts' numbers, or reading's refusal.
use Rattle.std.proofs.lemmas.Result.{err_from_is_err_and}
use Rattle.plan_text.proofs.Sizing.{gave, turned_down_lem}
use Rattle.plan_text.proofs.check_size.Goals as goal

pub returns-in_err-read : goal.returns-in_err-read
returns-in_err-read c =
    let p = err_from_is_err_and c.from_residual.result c.from_residual.ensures.1 in
    let all = turned_down_lem c.args.text.now _ _ c.in_err-read.ensures in
    rw (p.1, p.2) (record { result_value = all.0; size_says = all.1 })

pub returns : goal.returns
returns c = let all = gave c.args.text.now _ _ _ _ _ _ c.in_ok-read.ensures c.set_counts.ensures in record { result_value = all.0; size_says = all.1 }
