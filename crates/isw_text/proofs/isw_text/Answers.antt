-- `isw_text::isw_text` meets its contract: the text is written to the code's own page, and copied where it fits.
use Rattle.isw_text.proofs.Answering.{order_wrong, text_short, text_written}
use Prim.Native.Nat.{◌-◌}
use mathlib.Core.Path.{ap}
use mathlib.Core.Logic.{inl, inr}
use borrow.Rule.Slice.PartMut.{put_mid}
use Rattle.isw_text.proofs.isw_text.Goals as goal

pub returns-then-order-lt1 : goal.returns-then-order-lt1
returns-then-order-lt1 c = let a = c.args in let all = order_wrong a.order a.text.now (inl c.if-order-lt1.true) in record { text_after = all.0; isw_says = all.1 }

pub returns-then-order-gt-MAX_ISW_ORDER : goal.returns-then-order-gt-MAX_ISW_ORDER
returns-then-order-gt-MAX_ISW_ORDER c = let a = c.args in let all = order_wrong a.order a.text.now (inr c.if-order-gt-MAX_ISW_ORDER.true) in record { text_after = all.0; isw_says = all.1 }

pub returns-then-text-length : goal.returns-then-text-length
returns-then-text-length c =
    let a = c.args in let all = text_short a.order a.text.now c.if-order-lt1.false c.if-order-gt-MAX_ISW_ORDER.false _ _ _ c.whole_text-length.ensures.wrote c.if-text-length.true in record { text_after = all.0; isw_says = all.1 }

pub returns-clause-isw_says : goal.returns-clause-isw_says
returns-clause-isw_says c =
    let a = c.args in
    (text_written a.order a.text.now c.if-order-lt1.false c.if-order-gt-MAX_ISW_ORDER.false _ _ _ c.whole_text-length.ensures.wrote _
    c.if-text-length.false
    (ap (put_mid 0 (c.whole_text-length.result - 0) a.text.now) c.copy_from_slice.ensures.after)).1
