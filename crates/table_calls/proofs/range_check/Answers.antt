-- `table_calls::range_check` meets its contract: of a set that was found its numbers mean what the answer means.
use mathlib.Core.Path.{refl}
use Rattle.call_answers.proofs.Judging.{range_found}
use Rattle.table_calls.proofs.range_check.Goals as goal

pub returns-in-Ok-Found-clause-range_shows : goal.returns-in-Ok-Found-clause-range_shows
returns-in-Ok-Found-clause-range_shows c =
    let e = c.in-Ok-Found.ensures in
    let told = rw c.in-Ok-Found.field-0-is at e.set_after in
    let finds = rw c.in-Ok-Found.field-0-is at e.range_finds in
    (range_found _ _ _ _ _ _ _ _ _ _ told finds c.args.clean.now c.args.found.now c.args.rank.now _ _ refl).1.1
