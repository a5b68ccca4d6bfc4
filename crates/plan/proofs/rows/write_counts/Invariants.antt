-- `plan::rows::write_counts` has written a row for each size up to there before each turn.
use Rattle.std.proofs.Common.{◌≤◌, ◌+◌, ◌*◌}
use Rattle.limits.specs.Limits.{max_order}
use Rattle.plan.specs.Rows.{row_bytes}
use Rattle.plan.proofs.rows.write_counts.Given as goal

abbrev pub invariant-loop-i : goal.invariant-loop-i
invariant-loop-i l = (l.i ≤ max_order) × (l.end ≤ l.at + l.i * row_bytes)
