-- `number_words::with_digit` meets its contract: a number that is large stays, and any other gets its digit.
use native.Mathlib.Omega.{arith}
use mathlib.Core.Path.{◌≡◌, ◌∙◌, ap}
use Prim.Native.Nat.{ℕ, ◌+◌, ◌*◌, ◌-◌}
use Rattle.number_words.proofs.Digits.{digit-large, digit_more}
use Rattle.number_words.proofs.with_digit.Goals as goal

pub returns-then-number-ge-LARGE : goal.returns-then-number-ge-LARGE
returns-then-number-ge-LARGE c = let a = c.args in digit-large a.number a.byte c.if-number-ge-LARGE.true

pub returns : goal.returns
returns c =
    let a = c.args in
    let added : c.from.result ≡ a.byte - 48 = omega arith in
    ap (λ (digit : ℕ). 10 * a.number + digit) added ∙ digit_more a.number a.byte c.if-number-ge-LARGE.false
