-- `breaking::sum_breaks` meets its contract: it makes the three tests of the definition in their order.
use Rattle.wires.specs.Wires.{swap}
use Rattle.records.specs.Layout.{terms_of}
use Rattle.shares.proofs.Shares.{seen-count}
use Rattle.breaking.proofs.Breaking.{still_masked, more_of_a, then_of_b}
use Rattle.breaking.proofs.sum_breaks.Goals as goal

pub returns-then-is_masked : goal.returns-then-is_masked
returns-then-is_masked c = still_masked _ _ _ c.is_masked.ensures c.if-is_masked.true

pub count-requires : goal.count-requires
count-requires c = (c.requires, c.shares_seen-seen.ensures.a_bound.0)

pub returns-then-paid-count : goal.returns-then-paid-count
returns-then-paid-count c =
    let t = terms_of c.args.sum in
    let seen = c.shares_seen-seen.ensures in
    more_of_a _ _ _ c.is_masked.ensures c.if-is_masked.false _ (seen-count t _ _ c.count.ensures seen.a_bound.0 seen.a_bound.1) c.if-paid-count.true

pub count-requires-2 : goal.count-requires-2
count-requires-2 c = (c.requires, c.shares_seen-seen.ensures.b_bound.0)

pub returns : goal.returns
returns c =
    let t = terms_of c.args.sum in
    let seen = c.shares_seen-seen.ensures in
    then_of_b _ _ _ c.is_masked.ensures c.if-is_masked.false _ (seen-count t _ _ c.count.ensures seen.a_bound.0 seen.a_bound.1) _
    (seen-count (swap t) _ _ c.count-2.ensures seen.b_bound.0 seen.b_bound.1) c.if-paid-count.false
