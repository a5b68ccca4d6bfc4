use mathlib.Core.Path.{◌≡◌}
use lib.ListN.{take}
use Rattle.sets_by_size.specs.Counted.{total_of}
use Rattle.sets_by_size.proofs.total.Given as goal

abbrev pub invariant-loop-count : goal.invariant-loop-count
invariant-loop-count l = l.all ≡ total_of (take l.count-index l.sets)
