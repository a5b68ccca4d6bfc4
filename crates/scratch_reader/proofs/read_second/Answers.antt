-- `scratch_reader::read_second` meets its contract: the second line is refused, or the output lines go on from its end.
use Rattle.std.proofs.lemmas.Result.{err_from_is_err_and}
use borrow.Author.Rules.{rules}
use Rattle.scratch_reader.proofs.Heading.{masks-inside, second_wrong, second_declared, fault_kept}
use Rattle.description.specs.declared.Fault.{Fault}
use Rattle.description.specs.declared.Refusal.TheVariants.{WrongMasksLine}
use Rattle.scratch_reader.proofs.read_second.Goals as goal

pub read_lines-requires : goal.read_lines-requires
read_lines-requires c =
    let a = c.args in
    let pre = c.requires in
    let h = masks-inside a.text.now a.order c.second_line-from.result c.masks_line.result c.second_line-from.ensures
    c.masks_line.ensures _ pre.2 c.in_ok-masks.ensures.ok_part in
    (pre.0, search rules, h.0, h.1)

pub returns-in_err-masks : goal.returns-in_err-masks
returns-in_err-masks c =
    let a = c.args in
    let p = err_from_is_err_and c.from_residual.result c.from_residual.ensures.1 in
    let wrong : Fault = record { why = WrongMasksLine; offset = c.second_line-from.result } in
    let kept = fault_kept c.masks_line.result wrong c.in_err-masks.field-0.0 c.in_err-masks.ensures.value c.in_err-masks.ensures.ok_part in
    rw (p.1, p.2, kept) (second_wrong a.text.now a.order c.second_line-from.result c.masks_line.result c.second_line-from.ensures
    c.masks_line.ensures a.scratch.now c.in_err-masks.ensures.ok_part)

pub returns : goal.returns
returns c =
    let a = c.args in
    second_declared a.text.now a.order c.second_line-from.result c.masks_line.result c.second_line-from.ensures
    c.masks_line.ensures _ c.read_lines.new.scratch c.read_lines.result c.in_ok-masks.ensures.ok_part c.read_lines.ensures
