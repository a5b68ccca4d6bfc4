-- `sets_by_size::total` meets its contract: before each turn the numbers so far are added.
use Prim.Native.Nat.{ℕ, ◌+◌}
use native.Mathlib.Omega.{arith}
use mathlib.Core.Path.{◌∙◌, ap}
use lib.ListN.{get_or}
use Rattle.sets_by_size.specs.Counted.{capped}
use Rattle.sets_by_size.proofs.Totals.{min_capped, total_more}
use Rattle.sets_by_size.proofs.total.Goals as goal

pub loop-count-preserved : goal.loop-count-preserved
loop-count-preserved c =
    let l = c.loop-count in
    let next = get_or c.args.sets.now l.count-index 0 in
    c.saturating_add-all.ensures
    ∙ min_capped (l.all + next)
    ∙ ap (λ (n : ℕ). capped (n + next)) l.invariant
    ∙ total_more c.args.sets.now l.count-index (omega arith)
