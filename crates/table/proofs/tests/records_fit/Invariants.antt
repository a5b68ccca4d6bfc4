use mathlib.Core.Path.{◌≡◌}
use mathlib.Core.Bool.{false}
use Rattle.basics.specs.Folds.{some, up_to}
use Rattle.table.specs.Answers.{wrong_record}
use Rattle.records.specs.Layout.{record_at}
use Rattle.table.proofs.tests.records_fit.Given as goal

abbrev pub invariant-loop-wire : goal.invariant-loop-wire
invariant-loop-wire l = some (λ w. wrong_record l.shares l.masks (record_at l.table w)) (up_to l.wire) ≡ false
