-- `header_lines::order_line` meets its contract: its tests are those of the first line, in their order.
use mathlib.Core.Path.{sym, ◌∙◌}
use Rattle.header_lines.proofs.HeaderLines.{order-word, order-short, order-low, order-high, order_tail, order_is}
use Rattle.header_lines.proofs.order_line.Goals as goal

pub returns-then-not-stands : goal.returns-then-not-stands
returns-then-not-stands c = sym (order-word c.args.text.now (sym c.stands.ensures ∙ c.if-not-stands.true))

pub returns-then-text-lt9 : goal.returns-then-text-lt9
returns-then-text-lt9 c = sym (order-short c.args.text.now (sym c.stands.ensures ∙ c.if-not-stands.false) c.if-text-lt9.true)

pub returns-then-digit-lt49 : goal.returns-then-digit-lt49
returns-then-digit-lt49 c =
    sym (order-low c.args.text.now (sym c.stands.ensures ∙ c.if-not-stands.false) c.if-text-lt9.false c.if-digit-lt49.true)

pub returns-then-order-gt-MAX_ORDER : goal.returns-then-order-gt-MAX_ORDER
returns-then-order-gt-MAX_ORDER c =
    sym
    (order-high c.args.text.now (sym c.stands.ensures ∙ c.if-not-stands.false) c.if-text-lt9.false c.if-digit-lt49.false _
    c.digit_value-order.ensures.0 c.if-order-gt-MAX_ORDER.true)

pub returns-then-not-line_ends : goal.returns-then-not-line_ends
returns-then-not-line_ends c =
    sym
    (order_tail c.args.text.now (sym c.stands.ensures ∙ c.if-not-stands.false) c.if-text-lt9.false c.if-digit-lt49.false _
    c.digit_value-order.ensures.0 c.if-order-gt-MAX_ORDER.false (sym c.line_ends.ensures ∙ c.if-not-line_ends.true))

pub returns : goal.returns
returns c =
    sym
    (order_is c.args.text.now (sym c.stands.ensures ∙ c.if-not-stands.false) c.if-text-lt9.false c.if-digit-lt49.false _
    c.digit_value-order.ensures.0 c.if-order-gt-MAX_ORDER.false (sym c.line_ends.ensures ∙ c.if-not-line_ends.false))
