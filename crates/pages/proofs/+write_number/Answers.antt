-- `pages::write_number` meets its contract: the digits of a tenth of the number, which is less than it, come before its last one.
use native.Mathlib.Nat.{mod-lt, zero-lt-suc, le_of_lt}
use native.Mathlib.Omega.{arith}
use Rattle.pages.proofs.Writing.{wrote_low, wrote_more, room-low, room_more}
use Rattle.pages.proofs.+write_number.Goals as goal

pub write_digit-requires : goal.write_digit-requires
write_digit-requires t c = (room-low c.args.at c.args.number _ c.if-number-lt10.true c.requires, c.if-number-lt10.true)

pub returns-then-number-lt10 : goal.returns-then-number-lt10
returns-then-number-lt10 t c =
    wrote_low c.args.page.now c.args.at c.args.number _ _ c.if-number-lt10.true c.write_digit.ensures

pub write_number-next-requires : goal.write_number-next-requires
write_number-next-requires t c = (
  omega (arith, c.decreases, c.if-number-lt10.false),
  le_of_lt (room_more c.args.at c.args.number _ c.if-number-lt10.false c.requires),
)

pub write_digit-requires-2 : goal.write_digit-requires-2
write_digit-requires-2 t c = (
  omega (arith, c.write_number-next.ensures.end_is, c.write_number-next.auto.page, room_more c.args.at c.args.number _ c.if-number-lt10.false c.requires),
  mod-lt c.args.number (zero-lt-suc 9),
)

pub returns : goal.returns
returns t c =
    wrote_more c.args.page.now c.args.at c.args.number _ _ _ _ c.if-number-lt10.false
    c.write_number-next.ensures c.write_digit-2.ensures
