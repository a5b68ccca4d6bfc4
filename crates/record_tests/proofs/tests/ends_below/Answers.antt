-- `record_tests::tests::ends_below` meets its contract: a word shifted down by the limit is 0 where no bit stands from there on.
use mathlib.Core.Path.{◌∙◌}
use borrow.Author.Tests.{le-leb}
use Rattle.records.proofs.Words.{none_from}
use Rattle.record_tests.proofs.Beyond.{limit_past}
use Rattle.record_tests.proofs.tests.ends_below.Goals as goal

pub returns-then-limit-ge64 : goal.returns-then-limit-ge64
returns-then-limit-ge64 c = le-leb 64 _ c.if-limit-ge64.true ∙ limit_past _ _ c.if-limit-ge64.true

pub returns-else-limit-ge64 : goal.returns-else-limit-ge64
returns-else-limit-ge64 c = none_from 64 _ _ c.ranges.word.fits
