-- `pages::write_digit` meets its contract.
use Prim.Native.Nat.{◌+◌}
use borrow.Author.Rules.{rules}
use Rattle.pages.proofs.Writing.{wrote_byte}
use Rattle.pages.proofs.write_digit.Goals as goal

pub returns : goal.returns
returns c = wrote_byte c.args.page.now c.args.at (48 + c.args.digit) (search rules)
