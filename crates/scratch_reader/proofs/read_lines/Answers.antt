-- `scratch_reader::read_lines` meets its contract: what the lines gave is what the run gives, and over 512 wires are a 10.
use Rattle.std.proofs.lemmas.Result.{err_from_is_err_and}
use Rattle.scratch_reader.proofs.Heading.{lines-refused, lines-many, lines_scratched}
use Rattle.scratch_reader.proofs.read_lines.Goals as goal

pub returns-in_err-done : goal.returns-in_err-done
returns-in_err-done c =
    let a = c.args in
    let p = err_from_is_err_and c.from_residual.result c.from_residual.ensures.1 in
    rw (p.1, p.2) (lines-refused a.text.now a.order a.masks c.lines.new.table c.in_err-done.field-0.0 c.in_err-done.ensures)

pub returns-then-done-gt-MAX_WIRES : goal.returns-then-done-gt-MAX_WIRES
returns-then-done-gt-MAX_WIRES c =
    let a = c.args in
    lines-many a.text.now a.order a.masks c.lines.new.table _ c.in_ok-done.ensures c.if-done-gt-MAX_WIRES.true

pub returns : goal.returns
returns c =
    let a = c.args in
    lines_scratched a.text.now a.order a.masks c.lines.new.table _ c.in_ok-done.ensures
    c.requires.2 c.if-done-gt-MAX_WIRES.false
