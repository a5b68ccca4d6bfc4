-- `directed_search::first_set` meets its contract: before each turn no smaller set breaks.
use native.Mathlib.Omega.{arith}
use mathlib.Core.Path.{refl}
use borrow.Author.Rules.{rules}
use Rattle.directed_search.proofs.Growing.{no_smaller, size_done, size_found, sizes-done, none_below}
use Rattle.directed_search.proofs.first_set.Goals as goal

pub loop-size-init : goal.loop-size-init
loop-size-init c = (no_smaller _ _, refl, search rules, search rules)

pub least_rank-requires : goal.least_rank-requires
least_rank-requires c =
    let p = c.requires in
    let i = c.loop-size.invariant in
    let taken = c.loop-size-test.true in record { counts = (c.table-counts.ensures, c.table-ones.ensures, c.fill.ensures); table_len_bound = (p.0, i.2, omega (arith, taken, p.1), none_below _ _ _ i.0) }

pub returns-in-Some : goal.returns-in-Some
returns-in-Some c = let i = c.loop-size.invariant in size_found _ _ _ i.0 _ _ _ _ i.2 c.loop-size-test.true c.in-Some.ensures c.unrank.ensures

pub loop-size-preserved : goal.loop-size-preserved
loop-size-preserved c =
    let i = c.loop-size.invariant in
    (size_done _ _ _ i.0 (λ j h. c.in_default.ensures j h), i.1, search rules, omega (arith, c.loop-size-test.true))

pub returns : goal.returns
returns c = let i = c.loop-size.invariant in sizes-done _ _ _ _ i.0 i.2 (omega (arith, c.loop-size-test.false)) i.3

pub returns-in_default : goal.returns-in_default
returns-in_default c =
    let i = c.loop-size.invariant in
    sizes-done _ _ _ _ (size_done _ _ _ i.0 (λ j h. c.in_default.ensures j h)) (omega arith) (omega arith) (omega (arith, c.loop-size-test.true))
