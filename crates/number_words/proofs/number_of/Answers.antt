-- `number_words::number_of` meets its contract: before each turn the number of the bytes up to there is known.
use Rattle.number_words.proofs.Digits.{number_more, number-all}
use borrow.Author.Rules.{rules}
use Rattle.number_words.proofs.number_of.Goals as goal

pub loop-byte-preserved : goal.loop-byte-preserved
loop-byte-preserved c =
    let a = c.args in
    let l = c.loop-byte in
    number_more a.word.now l.byte-index l.number _ (search rules) l.invariant c.with_digit-number.ensures

pub returns : goal.returns
returns c =
    let a = c.args in
    let l = c.loop-byte in
    number-all a.word.now l.byte-index l.number (search rules) l.invariant
