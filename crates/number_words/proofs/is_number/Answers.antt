-- `number_words::is_number` meets its contract: the tests on length and first byte, then on all bytes.
use mathlib.Core.Path.{sym, ◌∙◌}
use Rattle.number_words.proofs.Digits.{number-empty, number-one, number_led, number_digits}
use Rattle.number_words.proofs.is_number.Goals as goal

pub returns-then-word-eq0 : goal.returns-then-word-eq0
returns-then-word-eq0 c = let a = c.args in sym (number-empty a.word.now c.if-word-eq0.true)

pub returns-then-word-eq1 : goal.returns-then-word-eq1
returns-then-word-eq1 c = let a = c.args in c.is_digit.ensures.value ∙ sym (number-one a.word.now c.if-word-eq1.true)

pub returns-then-word-eq48 : goal.returns-then-word-eq48
returns-then-word-eq48 c =
    let a = c.args in sym (number_led a.word.now c.if-word-eq0.false c.if-word-eq1.false c.if-word-eq48.true)

pub returns : goal.returns
returns c =
    let a = c.args in
    c.all_digits.ensures
    ∙ sym (number_digits a.word.now c.if-word-eq0.false c.if-word-eq1.false c.if-word-eq48.false)
