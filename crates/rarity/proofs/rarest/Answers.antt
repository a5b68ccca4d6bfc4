-- `rarity::rarest` meets its contract: what it returns it has tested.
use mathlib.Core.Path.{sym, ◌∙◌}
use borrow.Author.Rules.{rules}
use Rattle.rarity.proofs.rarest.Goals as goal

pub returns-then-has_mask : goal.returns-then-has_mask
returns-then-has_mask c = (search rules, sym c.has_mask.ensures ∙ c.if-has_mask.true)

pub returns : goal.returns
returns c = c.lowest_mask.ensures
