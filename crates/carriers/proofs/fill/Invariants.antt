use mathlib.Core.Path.{◌≡◌}
use lib.ListN.{length}
use Rattle.carriers.proofs.Rows.{places, Rows}
use Rattle.carriers.proofs.fill.Given as goal

abbrev pub invariant-loop-place : goal.invariant-loop-place
invariant-loop-place l = (length l.highest ≡ places) × Rows l.table l.highest l.place
