-- `isw_lines::corrected` meets its contract: its pieces are written one after the other.
use Rattle.pages.proofs.Writing.{wrote_after}
use Rattle.isw_lines.proofs.corrected.Goals as goal

pub returns : goal.returns
returns c =
    let a = c.args in
    let first = c.write_named-first.ensures in
    let second = c.product-second.ensures in
    let third = c.product-third.ensures in
    let end = c.write_text.ensures in
    wrote_after a.page.now a.at _ _ _ _ _ _
    (wrote_after a.page.now a.at _ _ _ _ _ _ (wrote_after a.page.now a.at _ _ _ _ _ _ first.wrote second) third) end.wrote
