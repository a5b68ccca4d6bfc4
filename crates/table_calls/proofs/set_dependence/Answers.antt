-- `table_calls::set_dependence` meets its contract: the numbers of a set mean what the answer means.
use mathlib.Core.Path.{refl, ◌∙◌}
use Rattle.call_answers.proofs.Judging.{same_bit, dependence_gave}
use Rattle.table_calls.proofs.set_dependence.Goals as goal

pub returns-in-Ok-clause-dependence_says : goal.returns-in-Ok-clause-dependence_says
returns-in-Ok-clause-dependence_says c =
    let a = c.args in
    let e = c.in-Ok.ensures in
    (dependence_gave _ _ _ _ _ _ e.result_value e.dependence_means a.of_a.now a.of_b.now a.allowed.now a.masked.now _ _ refl (c.from.ensures ∙ same_bit _)).1.1
