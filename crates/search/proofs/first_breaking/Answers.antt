-- `search::first_breaking` meets its contract: before each turn nothing was found in the sizes and ranks below, the walk stands at the rank,
-- and a set that breaks is then the first.
use native.Mathlib.Nat.{le_refl}
use native.Mathlib.Omega.{arith}
use mathlib.Core.Path.{refl, sym, ◌∙◌}
use borrow.Author.Rules.{rules}
use Rattle.running.proofs.Telling.{looked, step_asks, held_next}
use Rattle.runs.proofs.Clean.{clean-start, clean-next, clean_join}
use Rattle.search.proofs.Turns.{held_first, smaller-start, smaller-next, nothing-found, something_found}
use Rattle.search.proofs.first_breaking.Goals as goal

pub search-init : goal.search-init
search-init c = (refl, smaller-start _ _ _ _ _, le_refl _, refl)

pub loop-rank-init : goal.loop-rank-init
loop-rank-init c =
    let s = c.search.invariant in
    (s.0, clean-start _ _ _ _, le_refl _, held_first c.args.notion _ _ _ _ _ _ _ _ (omega (arith, c.min-end.ensures)) c.count.ensures c.start-tally.ensures, refl)

pub pass_over-stand-requires : goal.pass_over-stand-requires
pass_over-stand-requires c =
    let held = c.loop-rank.invariant.3 c.loop-rank-test.true in record { wires_value = (refl, search rules, search rules, search rules, c.loop-rank-test.true, omega (arith, c.min-end.ensures, c.count.ensures), c.requires.table_len_bound.3); stands = held }

pub sum_breaks-requires : goal.sum_breaks-requires
sum_breaks-requires c = c.requires.table_len_bound.3

pub overflow_add-rank : goal.overflow_add-rank
overflow_add-rank c = omega (arith, c.pass_over-stand.ensures.from_le_rank.1)

pub advance-tally-requires : goal.advance-tally-requires
advance-tally-requires c =
    let over = c.pass_over-stand.ensures in
    let held = over.stands_2 in record {
      wires_value = (
        refl,
        omega (arith, c.requires.table_len_bound.0),
        omega (arith, c.search-test.true, c.requires.table_len_bound.1),
        search rules,
      );
      has_next = step_asks c.args.notion _ _ _ _ _ _ held (omega (arith, c.if-rank-end.true, c.min-end.ensures, c.count.ensures));
    }

pub loop-rank-smaller-then-rank-end : goal.loop-rank-smaller-then-rank-end
loop-rank-smaller-then-rank-end c = omega (arith, c.pass_over-stand.ensures.from_le_rank.0, c.pass_over-stand.ensures.from_le_rank.1)

pub loop-rank-preserved-then-rank-end : goal.loop-rank-preserved-then-rank-end
loop-rank-preserved-then-rank-end c =
    let l = c.loop-rank.invariant in
    let over = c.pass_over-stand.ensures in
    let held = over.stands_2 in
    let moved = c.advance-tally.ensures in
    let tested = looked c.args.notion _ _ _ _ _ _ held _ c.sum_breaks.ensures in (
      l.0,
      clean-next _ _ _ _ _ (clean_join _ _ _ _ _ _ l.1 over.by_index) (sym tested ∙ c.if-sum_breaks.false),
      omega (arith, l.2, over.from_le_rank.0),
      (λ more. held_next c.args.notion _ _ _ _ _ _ held (omega (arith, more, c.min-end.ensures, c.count.ensures)) _ _ moved.probes_after moved.kept),
      search rules,
    )

pub loop-rank-smaller : goal.loop-rank-smaller
loop-rank-smaller c = omega (arith, c.pass_over-stand.ensures.from_le_rank.0, c.pass_over-stand.ensures.from_le_rank.1)

pub loop-rank-preserved : goal.loop-rank-preserved
loop-rank-preserved c =
    let l = c.loop-rank.invariant in
    let over = c.pass_over-stand.ensures in
    let held = over.stands_2 in
    let tested = looked c.args.notion _ _ _ _ _ _ held _ c.sum_breaks.ensures in (
      l.0,
      clean-next _ _ _ _ _ (clean_join _ _ _ _ _ _ l.1 over.by_index) (sym tested ∙ c.if-sum_breaks.false),
      omega (arith, l.2, over.from_le_rank.0),
      (λ more. let z : ⊥ = omega (arith, more, c.if-rank-end.false) in absurd z),
      search rules,
    )

pub search-preserved : goal.search-preserved
search-preserved c =
    let l = c.loop-rank.invariant in
    let s = c.search.invariant in
    (l.0, smaller-next _ _ _ _ _ _ _ _ _ s.1 l.1 c.loop-rank-test.false c.count.ensures (λ i a b. omega (arith, c.min-end.ensures, a, b)), omega (arith, s.2), search rules)

pub returns : goal.returns
returns c =
    let s = c.search.invariant in
    nothing-found _ _ _ _ _ _ _ _ _ s.0 c.search-test.false s.1

pub returns-then-sum_breaks : goal.returns-then-sum_breaks
returns-then-sum_breaks c =
    let l = c.loop-rank.invariant in
    let s = c.search.invariant in
    let over = c.pass_over-stand.ensures in
    let held = over.stands_2 in
    let tested = looked c.args.notion _ _ _ _ _ _ held _ c.sum_breaks.ensures in
    something_found _ _ _ _ _ _ _ _ _ _ _ s.2 c.search-test.true (omega (arith, l.2, over.from_le_rank.0)) over.from_le_rank.1
    (omega (arith, c.min-end.ensures)) c.count.ensures (omega (arith, c.min-end.ensures)) s.1 (clean_join _ _ _ _ _ _ l.1 over.by_index)
    (sym c.if-sum_breaks.true ∙ tested) held.here

pub returns-2 : goal.returns-2
returns-2 c =
    let l = c.loop-rank.invariant in
    let s = c.search.invariant in
    nothing-found _ _ _ _ _ _ _ _ _ l.0 (search rules) (smaller-next _ _ _ _ _ _ _ _ _ s.1 l.1 c.loop-rank-test.false c.count.ensures (λ i a b. omega (arith, c.min-end.ensures, a, b)))
