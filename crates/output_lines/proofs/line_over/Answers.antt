-- `output_lines::line_over` meets its contract: past its spaces the line ends, or it is one too many.
use mathlib.Core.Path.{sym, ◌∙◌}
use Rattle.output_lines.proofs.Ending.{over_stopped, over_went}
use Rattle.output_lines.proofs.line_over.Goals as goal

pub returns-then-not-line_ends : goal.returns-then-not-line_ends
returns-then-not-line_ends c = over_stopped _ _ _ c.after_spaces-at.ensures (sym c.line_ends.ensures ∙ c.if-not-line_ends.true)

pub returns : goal.returns
returns c =
    let pre = c.requires in
    over_went _ _ _ c.after_spaces-at.ensures pre.0 pre.1
    (sym c.line_ends.ensures ∙ c.if-not-line_ends.false) _
    c.next_line.ensures
