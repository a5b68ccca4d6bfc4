-- `output_lines::finish_line` meets its contract: a closing parenthesis is one too many; at the line's end an output line is done.
use native.Mathlib.Omega.{arith}
use Rattle.groups.specs.Going.{Ends}
use Rattle.output_lines.proofs.Ending.{finish-closing, finish-blank, finish-line}
use Rattle.output_lines.proofs.finish_line.Goals as goal
use Rattle.output_lines.proofs.finish_line.Goals.{then-at-text+else-text-at-eq41, else-at-text}

pub returns-then-text-at-eq41 : goal.returns-then-text-at-eq41
returns-then-text-at-eq41 c = finish-closing _ _ _ c.args.table.now c.if-at-text.true c.if-text-at-eq41.true

pub returns-then-group : goal.returns-then-group
unfolding Ends
returns-then-group c =
    let pre = c.requires.within in
    finish-line _ _ _ pre.0
    (λ less. elim c.if-at-text.branch [
      | then-at-text+else-text-at-eq41 w ↦ pre.1 less w.if-text-at-eq41.false
      | else-at-text w ↦ absurd (omega (arith, less, w.if-at-text.false))
    ]) c.if-group.true
    c.end_line-ended.new.table _ _ c.end_line-ended.ensures.value
    c.end_line-ended.ensures.follows c.next_line.ensures

pub returns : goal.returns
unfolding Ends
returns c =
    let pre = c.requires.within in
    finish-blank _ _ _ pre.0
    (λ less. elim c.if-at-text.branch [
      | then-at-text+else-text-at-eq41 w ↦ pre.1 less w.if-text-at-eq41.false
      | else-at-text w ↦ absurd (omega (arith, less, w.if-at-text.false))
    ])
    c.if-group.false _
    c.next_line-2.ensures
