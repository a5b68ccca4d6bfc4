-- `pages::write_text` meets its contract: the part of the page from the place on is written over.
use Rattle.pages.proofs.Writing.{wrote_copied}
use Rattle.pages.proofs.write_text.Goals as goal

pub returns-clause-wrote : goal.returns-clause-wrote
returns-clause-wrote c =
    wrote_copied c.args.page.now c.args.at c.args.text.now _ c.requires c.copy_from_slice.ensures.after
