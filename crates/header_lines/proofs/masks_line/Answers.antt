-- `header_lines::masks_line` meets its contract: its tests are those of the second line, and names are read where no bracket closes it at once.
use mathlib.Core.Path.{sym, ◌∙◌}
use Rattle.description.specs.Bytes.{masks_word}
use Rattle.tokens.proofs.Runs.{stands-fits}
use Rattle.header_lines.proofs.HeaderLines.{masks-word, masks-none, masks-some}
use Rattle.header_lines.proofs.masks_line.Goals as goal

pub returns-then-not-stands : goal.returns-then-not-stands
returns-then-not-stands c = sym (masks-word c.args.text.now c.args.from (sym c.stands.ensures ∙ c.if-not-stands.true))

pub stands-requires-2 : goal.stands-requires-2
stands-requires-2 c = stands-fits _ masks_word _ c.requires (sym c.stands.ensures ∙ c.if-not-stands.false)

pub names-requires : goal.names-requires
names-requires c = stands-fits _ masks_word _ c.requires (sym c.stands.ensures ∙ c.if-not-stands.false)

pub returns-then-stands : goal.returns-then-stands
returns-then-stands c =
    c.closing.ensures
    ∙ sym
    (masks-none c.args.text.now c.args.from (sym c.stands.ensures ∙ c.if-not-stands.false)
    (sym c.stands-2.ensures ∙ c.if-stands.true))

pub returns : goal.returns
returns c =
    c.names.ensures
    ∙ sym
    (masks-some c.args.text.now c.args.from (sym c.stands.ensures ∙ c.if-not-stands.false)
    (sym c.stands-2.ensures ∙ c.if-stands.false))
