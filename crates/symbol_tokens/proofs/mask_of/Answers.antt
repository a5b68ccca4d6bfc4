-- `symbol_tokens::mask_of` meets its contract: a name's mask is below 64, and its name is the whole run where the lengths are the same.
use mathlib.Core.Path.{sym, ◌∙◌}
use Rattle.symbol_tokens.proofs.MaskNames.{is_declared, not_declared}
use Rattle.symbol_tokens.proofs.mask_of.Goals as goal

pub returns-then-declared-mask-eq1 : goal.returns-then-declared-mask-eq1
returns-then-declared-mask-eq1 c =
    let a = c.args in
    sym
    (is_declared a.word.now a.declared _ _ (sym c.mask_name.ensures ∙ c.in_ok-mask.ensures.ok_part) c.name_length.ensures
    c.if-word-name_length.false c.if-declared-mask-eq1.true)

pub returns : goal.returns
returns c =
    let a = c.args in
    sym
    (not_declared a.word.now a.declared _ _ (sym c.mask_name.ensures ∙ c.in_ok-mask.ensures.ok_part) c.name_length.ensures
    c.if-word-name_length.false c.if-declared-mask-eq1.false)
