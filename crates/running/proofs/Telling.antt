-- What the request asks of the sum, in its own words.
--     kept-value     the sum kept has the value of the records' sum, whatever the input and the mask setting
--     kept-breaks    what is tested of a tally says whether the set breaks
--     next-sum, sum_at_every_set     for every number of wires and every size: a sum to which at each rank the record that is lost and the one that
--                    is gained are added is at every set that of its records
--     looked         what the test of its tally says of the set where a walk stands
--     step_asks, held_next     what the step from there asks, and where it comes to
--     walk_kept      a walk that starts right and goes from one rank to the next as promised stands at every rank at its set, with its tally
use Prim.Native.Nat.{ℕ, ◌+◌, ◌≤◌, ◌<◌}
use native.Mathlib.Nat.{le_refl}
use native.Mathlib.Omega.{arith}
use mathlib.Core.Path.{◌≡◌, refl, ◌∙◌, ap, ap₂}
use mathlib.Core.Bool.{Bool}
use mathlib.Core.List.{List, map}
use lib.ListN.{take}
use Rattle.limits.specs.Limits.{max_shares, max_masks}
use Rattle.basics.specs.Folds.{parity}
use Rattle.basics.proofs.Numbers.{from_on}
use Rattle.counts.specs.Counts.{binom}
use Rattle.revolving.specs.Order.{set_at}
use Rattle.revolving.proofs.Rising.{Chosen, is_set-parts}
use Rattle.revolving.proofs.Revolving.{set_at-is-set}
use Rattle.wires.specs.declared.Notion.{Notion}
use Rattle.wires.specs.Wires.{Terms, Input, plus, total, value, sum_breaks, breaks}
use Rattle.records.specs.Layout.{wire_at, terms_of}
use Rattle.breaking.specs.Breaking.{is_breaking}
use Rattle.walk.specs.Neighbours.{HasNext, next_set}
use Rattle.walk.proofs.Sets.{has-next_at, next_at}
use Rattle.walk.proofs.Telling.{Lost, Gained, exchanged_by}
use Rattle.running.specs.declared.Tally.{Tally}
use Rattle.running.specs.Kept.{Kept, Stands}
use Rattle.running.proofs.Exchanging.{sum_exchanged}

pub kept-value : (notion : Notion) (table set : List ℕ) (tally : Tally) → Kept notion table set tally → (n m : ℕ) (x : Input) (r : ℕ → Bool)
    → value n m x r (terms_of tally.sum) ≡ parity (λ w. value n m x r w.terms) (map (wire_at table) set)
kept-value notion table set tally kept = kept.values

-- the test of the tally is that of the set
pub kept-breaks : (notion : Notion) (table set : List ℕ) (tally : Tally) → Kept notion table set tally
    → (shares masks : ℕ) → sum_breaks shares masks tally.paid (terms_of tally.sum) ≡ breaks notion shares masks (map (wire_at table) set)
unfolding breaks
kept-breaks notion table set tally kept shares masks = ap₂ (sum_breaks shares masks) kept.payers kept.terms

-- the next set's sum is the set's, with the record of the wire that it lost and of the one that it gained added
pub next-sum : (table : List ℕ) (n k r x y : ℕ) → r + 1 < binom n k → Lost (set_at n k r) (set_at n k (r + 1)) x → Gained (set_at n k r) (set_at n k (r + 1)) y
    → plus (plus (total (map (wire_at table) (set_at n k r))) (wire_at table x).terms) (wire_at table y).terms ≡ total (map (wire_at table) (set_at n k (r + 1)))
next-sum table n k r x y h lost-is gained-is =
    let e = exchanged_by n k r x y h lost-is gained-is in
    let rises : (i : ℕ) → i < binom n k → Chosen 0 n (set_at n k i) = λ i b. (is_set-parts n k (set_at n k i) (set_at-is-set n k i b)).1 in
    sum_exchanged table n x y (set_at n k r) (set_at n k (r + 1)) (rises r (omega arith)) (rises (r + 1) h) e (total (map (wire_at table) (set_at n k r))) refl

-- a sum that starts as that of a set's records, and to which at each rank the two are added, is at every rank that of its set's records
module _ (table : List ℕ) (n k from : ℕ) (leaves enters : ℕ → ℕ) (sum : ℕ → Terms) (first : sum from ≡ total (map (wire_at table) (set_at n k from)))
    (left : (r : ℕ) → r + 1 < binom n k → Lost (set_at n k r) (set_at n k (r + 1)) (leaves r))
    (entered : (r : ℕ) → r + 1 < binom n k → Gained (set_at n k r) (set_at n k (r + 1)) (enters r))
    (added : (r : ℕ) → sum (r + 1) ≡ plus (plus (sum r) (wire_at table (leaves r)).terms) (wire_at table (enters r)).terms) where
  pub sum_at_every_set : (r : ℕ) → from ≤ r → r < binom n k → sum r ≡ total (map (wire_at table) (set_at n k r))
  sum_at_every_set r low h = from_on (λ (i : ℕ). sum i ≡ total (map (wire_at table) (set_at n k i))) from r first next r low (le_refl r)
    where
      next : (i : ℕ) → from ≤ i → i < r → sum i ≡ total (map (wire_at table) (set_at n k i)) → sum (i + 1) ≡ total (map (wire_at table) (set_at n k (i + 1)))
      next i at_least_lem less here =
          let more : i + 1 < binom n k = omega (arith, less, h) in
          added i ∙ ap (λ (t : Terms). plus (plus t (wire_at table (leaves i)).terms) (wire_at table (enters i)).terms) here
          ∙ next-sum table n k i (leaves i) (enters i) more (left i more) (entered i more)

-- ---- where a walk stands

module _ (notion : Notion) (table : List ℕ) (n k rank : ℕ) (held : List ℕ) (tally : Tally) (h : Stands notion table n k rank held tally) where
  pub looked : (r : Bool) → r ≡ sum_breaks max_shares max_masks tally.paid (terms_of tally.sum) → r ≡ is_breaking notion table max_shares max_masks (set_at n k rank)
  unfolding is_breaking
  looked r e =
      e ∙ kept-breaks notion table (take k held) tally h.kept max_shares max_masks
      ∙ ap (λ (l : List ℕ). breaks notion max_shares max_masks (map (wire_at table) l)) h.here

  module _ (more : rank + 1 < binom n k) where
    pub step_asks : HasNext n (take k held) × Kept notion table (take k held) tally
    step_asks = (has-next_at n k rank (take k held) h.here more, h.kept)

    pub held_next : (after : List ℕ) (u : Tally) → take k after ≡ next_set n (take k held) → Kept notion table (take k after) u
        → Stands notion table n k (rank + 1) after u
    held_next after u e kept = record { here = e ∙ next_at n k rank (take k held) h.here more; kept = kept }

-- the buffers and tallies at the ranks from `from` on, each from the one before by what `advance` promises
module _ (notion : Notion) (table : List ℕ) (n k from : ℕ) (held : ℕ → List ℕ) (tallies : ℕ → Tally) (first : Stands notion table n k from (held from) (tallies from))
    (goes_on : (r : ℕ) → HasNext n (take k (held r)) → Kept notion table (take k (held r)) (tallies r)
    → (take k (held (r + 1)) ≡ next_set n (take k (held r))) × Kept notion table (take k (held (r + 1))) (tallies (r + 1))) where
  pub walk_kept : (r : ℕ) → from ≤ r → r < binom n k → Stands notion table n k r (held r) (tallies r)
  walk_kept r low h = from_on (λ (i : ℕ). Stands notion table n k i (held i) (tallies i)) from r first next r low (le_refl r)
    where
      next : (i : ℕ) → from ≤ i → i < r → Stands notion table n k i (held i) (tallies i) → Stands notion table n k (i + 1) (held (i + 1)) (tallies (i + 1))
      next i at_least_lem less here =
          let more : i + 1 < binom n k = omega (arith, less, h) in
          let asks = step_asks notion table n k i (held i) (tallies i) here more in
          let moved = goes_on i asks.0 asks.1 in
          held_next notion table n k i (held i) (tallies i) here more (held (i + 1)) (tallies (i + 1)) moved.0 moved.1
