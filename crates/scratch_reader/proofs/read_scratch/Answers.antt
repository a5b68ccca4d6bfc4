-- `scratch_reader::read_scratch` meets its contract: a text too long and a wrong first line are refused; then the second line is read.
use mathlib.Core.Path.{sym, ◌∙◌}
use Rattle.std.proofs.lemmas.Result.{err_from_is_err_and}
use Rattle.scratch_reader.proofs.Heading.{text_long, first_wrong, first_given, fault_kept}
use Rattle.description.specs.declared.Fault.{Fault}
use Rattle.description.specs.declared.Refusal.TheVariants.{WrongOrderLine}
use borrow.Author.Rules.{rules}
use Rattle.scratch_reader.proofs.read_scratch.Goals as goal

pub returns-then-text-gt-MAX_TEXT_BYTES : goal.returns-then-text-gt-MAX_TEXT_BYTES
returns-then-text-gt-MAX_TEXT_BYTES c = text_long c.args.text.now c.args.scratch.now c.if-text-gt-MAX_TEXT_BYTES.true

pub read_second-requires : goal.read_second-requires
read_second-requires c = (
  c.if-text-gt-MAX_TEXT_BYTES.false,
  search rules,
  sym c.order_line.ensures ∙ c.in_ok-order.ensures.ok_part,
)

pub returns-in_err-order : goal.returns-in_err-order
returns-in_err-order c =
    let a = c.args in
    let p = err_from_is_err_and c.from_residual.result c.from_residual.ensures.1 in
    let wrong : Fault = record { why = WrongOrderLine; offset = 0 } in
    let kept = fault_kept c.order_line.result wrong c.in_err-order.field-0.0 c.in_err-order.ensures.value c.in_err-order.ensures.ok_part in
    rw (p.1, p.2, kept) (first_wrong a.text.now a.scratch.now c.if-text-gt-MAX_TEXT_BYTES.false _ c.order_line.ensures c.in_err-order.ensures.ok_part)

pub returns : goal.returns
returns c =
    let a = c.args in
    first_given a.text.now c.read_second.new.scratch
    c.if-text-gt-MAX_TEXT_BYTES.false _
    c.order_line.ensures _ c.read_second.result
    c.in_ok-order.ensures.ok_part c.read_second.ensures
