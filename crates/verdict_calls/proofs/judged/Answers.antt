-- `verdict_calls::judged` meets its contract: where a set is shown its numbers mean what the answer means.
use mathlib.Core.Path.{refl}
use Rattle.call_answers.proofs.Judging.{verdict_broken}
use Rattle.verdict_calls.proofs.judged.Goals as goal

pub returns-in-Ok-Broken-clause-verdict_says : goal.returns-in-Ok-Broken-clause-verdict_says
returns-in-Ok-Broken-clause-verdict_says g c =
    let e = c.in-Ok-Broken.ensures in
    let told = rw c.in-Ok-Broken.field-0-is at e.set_after in
    let finds = rw c.in-Ok-Broken.field-0-is at e.verdict_finds in
    let guarantee = rw c.in-Ok-Broken.field-0-is at e.guarantee in
    (verdict_broken _ _ _ _ _ _ _ _ told finds guarantee c.args.holds.now c.args.size.now _ refl).1.1.1
