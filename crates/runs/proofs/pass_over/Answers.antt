-- `runs::pass_over` meets its contract: before each turn the walk stands at the rank, and no set before it breaks.
use native.Mathlib.Nat.{le_refl}
use native.Mathlib.Omega.{arith}
use mathlib.Core.Path.{refl}
use borrow.Author.Rules.{rules}
use Rattle.runs.proofs.Passing.{steps_ask, passing_start, slide_may, passing_next, passed_over}
use Rattle.runs.proofs.pass_over.Goals as goal

pub returns-then-size-eq0 : goal.returns-then-size-eq0
returns-then-size-eq0 c = record { from_le_rank = (le_refl _, c.requires.wires_value.4); stands_2 = c.requires.stands; by_index = λ i a b. let z : ⊥ = omega (arith, a, b) in absurd z }

pub bounds-probes-0 : goal.bounds-probes-0
bounds-probes-0 c = omega (arith, c.if-size-eq0.false, c.requires.wires_value.3)

pub steps_of_lowest-steps-requires : goal.steps_of_lowest-steps-requires
steps_of_lowest-steps-requires c = steps_ask _ _ _ c.args.probes.now c.requires.stands.here (omega (arith, c.requires.wires_value.4, c.requires.wires_value.5)) c.if-size-eq0.false

pub overflow_sub-to : goal.overflow_sub-to
overflow_sub-to c = omega (arith, c.requires.wires_value.4)

pub overflow_sub-to-2 : goal.overflow_sub-to-2
overflow_sub-to-2 c = omega (arith, c.requires.wires_value.4)

pub overflow_add-last : goal.overflow_add-last
overflow_add-last c = omega (arith, c.min.ensures, c.requires.wires_value.4)

pub loop-rank-init : goal.loop-rank-init
loop-rank-init c =
    let start = c.requires in (
      passing_start c.args.notion _ _ _ _ _ _ _ _ _ start.wires_value.4 start.stands (omega (arith, c.min.ensures)) c.steps_of_lowest-steps.ensures,
      refl,
      omega (arith, c.min.ensures, start.wires_value.4),
    )

pub sum_breaks-requires : goal.sum_breaks-requires
sum_breaks-requires c = c.requires.wires_value.6

pub returns-then-sum_breaks : goal.returns-then-sum_breaks
returns-then-sum_breaks c = let all = passed_over _ _ _ _ _ _ _ _ _ _ _ c.loop-rank.invariant.0 in record { from_le_rank = all.0; stands_2 = all.1.0; by_index = all.1.1 }

pub slide-slid-requires : goal.slide-slid-requires
slide-slid-requires c =
    let start = c.requires in
    let l = c.loop-rank.invariant in
    let may = slide_may _ _ _ _ _ _ _ _ _ _ _ l.0 c.loop-rank-test.true l.2 start.wires_value.5 in
    record {
      wires_value = (start.wires_value.0, start.wires_value.1, start.wires_value.2, search rules);
      has_next = may.0;
      lowest_value = may.1;
    }

pub loop-rank-preserved : goal.loop-rank-preserved
loop-rank-preserved c =
    let l = c.loop-rank.invariant in
    let slid = c.slide-slid.ensures in (
      passing_next _ _ _ _ _ _ _ _ _ _ _ l.0 c.loop-rank-test.true l.2 c.requires.wires_value.5 _ c.sum_breaks.ensures c.if-sum_breaks.false _ _ _
          slid.probes_after slid.kept slid.lowest_value_2.0 slid.lowest_value_2.1,
      search rules,
      l.2,
    )

pub returns : goal.returns
returns c = let all = passed_over _ _ _ _ _ _ _ _ _ _ _ c.loop-rank.invariant.0 in record { from_le_rank = all.0; stands_2 = all.1.0; by_index = all.1.1 }
