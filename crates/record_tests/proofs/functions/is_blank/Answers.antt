-- `record_tests::functions::is_blank` meets its contract: four words are 0 where no bit of the sum is set.
use native.Mathlib.Omega.{arith}
use mathlib.Core.Path.{◌∙◌}
use Rattle.record_tests.proofs.Named.{words_blank}
use Rattle.record_tests.proofs.functions.is_blank.Goals as goal

pub returns : goal.returns
returns c =
    rw c.nothing.ensures.value at c.eq.ensures ∙ words_blank _ _ _ _ (omega arith) (omega arith) (omega arith) (omega arith)
