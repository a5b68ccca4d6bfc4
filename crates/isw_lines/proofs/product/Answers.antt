-- `isw_lines::product` meets its contract: its bytes are written one after the other.
use Rattle.isw_lines.proofs.Writing.{product_wrote}
use Rattle.isw_lines.proofs.product.Goals as goal

pub returns : goal.returns
returns c =
    let a = c.args in
    product_wrote a.page.now a.at a.i a.j a.name.now _ _ _ _ _ _
    c.write_text-first.ensures.wrote
    c.write_digit-second.ensures c.write_digit.ensures
