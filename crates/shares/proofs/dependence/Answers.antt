-- `shares::dependence` meets its contract: the ones of a word are the shares that it tells.
use native.Mathlib.Omega.{arith}
use lib.Count.{ones-le}
use Rattle.limits.specs.Limits.{max_shares}
use Rattle.wires.specs.Wires.{swap}
use Rattle.records.specs.Layout.{terms_of}
use Rattle.shares.proofs.Shares.{seen_ones}
use Rattle.shares.proofs.dependence.Goals as goal

pub overflow_cast-result : goal.overflow_cast-result
overflow_cast-result c = let few = ones-le max_shares _ c.shares_seen-words.ensures.a_bound.0 in omega (arith, few)

pub overflow_cast-result-2 : goal.overflow_cast-result-2
overflow_cast-result-2 c = let few = ones-le max_shares _ c.shares_seen-words.ensures.b_bound.0 in omega (arith, few)

pub returns : goal.returns
returns c =
    let sum = c.args.sum in (
      seen_ones (terms_of sum) _ c.shares_seen-words.ensures.a_bound.0 c.shares_seen-words.ensures.a_bound.1,
      seen_ones
          (swap (terms_of sum)) _ c.shares_seen-words.ensures.b_bound.0 c.shares_seen-words.ensures.b_bound.1,
      ones-le max_shares _ c.shares_seen-words.ensures.a_bound.0,
      ones-le max_shares _ c.shares_seen-words.ensures.b_bound.0,
    )
