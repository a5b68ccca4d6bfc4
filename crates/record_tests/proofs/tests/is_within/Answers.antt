-- `record_tests::tests::is_within` meets its contract: a product beyond has its row or its column beyond, so the words of the shares tell it.
use mathlib.Core.Path.{sym, ◌∙◌}
use mathlib.Core.Bool.{false≢true}
use Rattle.record_tests.proofs.Beyond.{a_beyond, b_beyond, then_the_masks}
use Rattle.record_tests.proofs.tests.is_within.Goals as goal
use Rattle.record_tests.proofs.tests.is_within.Goals.{then-ends_below, else-ends_below}

pub returns-then-ends_below-2 : goal.returns-then-ends_below-2
returns-then-ends_below-2 c =
    let words = c.shares_seen-words.ensures in
    elim c.if-ends_below.branch [
      | then-ends_below w ↦
          then_the_masks c.args.sum _ _ _ _ words.a_bound.0 words.a_bound.1 words.b_bound.0 words.b_bound.1 _ _ _ c.ends_below.ensures
          w.ends_below-then-ends_below.ensures c.ends_below-then-ends_below-2.ensures w.if-ends_below.true (sym w.value-is ∙ c.if-ends_below-2.true)
      | else-ends_below w ↦ absurd (false≢true (sym w.if-ends_below.false ∙ sym w.value-is ∙ c.if-ends_below-2.true))
    ]

pub returns-else-ends_below-2 : goal.returns-else-ends_below-2
returns-else-ends_below-2 c =
    let words = c.shares_seen-words.ensures in
    elim c.if-ends_below.branch [
      | then-ends_below w ↦
          c.if-ends_below-2.false
          ∙ b_beyond c.args.sum _ _ _ _ words.a_bound.0 words.a_bound.1 words.b_bound.0 words.b_bound.1 _ w.ends_below-then-ends_below.ensures
          (sym w.value-is ∙ c.if-ends_below-2.false)
      | else-ends_below w ↦
          c.if-ends_below-2.false
          ∙ a_beyond c.args.sum _ _ _ _ words.a_bound.0 words.a_bound.1 words.b_bound.0 words.b_bound.1 _ c.ends_below.ensures w.if-ends_below.false
    ]
