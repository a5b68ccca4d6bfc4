-- `number_words::all_digits` meets its contract: the library's search looks at every byte.
use mathlib.Core.Path.{◌∙◌}
use Rattle.std.proofs.Common.{rules, tests}
use Rattle.std.proofs.lemmas.Iterator.{YieldsList-from_slice}
use Rattle.std.proofs.lemmas.Iterator.Search.{all_from_yields_List}
use Rattle.description.specs.Bytes.{digit}
use Rattle.number_words.proofs.Digits.{all-digits}
use Rattle.number_words.proofs.all_digits.Goals as goal

pub returns : goal.returns
returns c =
    all_from_yields_List digit _ _ _ c.all.ensures.ran (YieldsList-from_slice c.args.word.now cc) (λ x b q k. search (rules, tests))
    ∙ all-digits c.args.word.now
