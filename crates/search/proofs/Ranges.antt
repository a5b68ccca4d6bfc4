-- What is found first in the ranks of a range of one size.
--     RangeClean                   nothing found in the ranks of a range up to one
--     rank-start, rank-next        at the start, and after a turn
--     clean_range                  the same from every rank in turn
--     rank-first                   what is found first in a range
--     rank-found, rank-none        the range's result, where a set was found and where none was
--     range_found_lem, range_clean_lem     what was found, as the range check asks it
use Prim.Native.Nat.{ℕ, suc, ◌+◌, ◌-◌, ◌≤◌, ◌<◌}
use native.Mathlib.Nat.{le_refl}
use native.Mathlib.Omega.{arith}
use mathlib.Core.Path.{◌≡◌, sym, ◌∙◌, ap, subst}
use mathlib.Core.Bool.{Bool, true, false}
use mathlib.Core.List.{List, [], ◌∷◌}
use lib.ListN.{length, get_or, take, drop, length-drop}
use lib.Seq.{take-take, get_or-take, get_or-drop, length-take-le}
use Rattle.std.specs.Prelude.{None, Some}
use Rattle.basics.specs.Folds.{keep}
use Rattle.basics.proofs.Numbers.{from_on}
use Rattle.counts.specs.Counts.{binom}
use Rattle.revolving.specs.Order.{revolving, set_at}
use Rattle.revolving.proofs.Revolving.{revolving-length}
use Rattle.search.specs.declared.Found.{Found}
use Rattle.search.specs.Search.{stretch, FirstRank, FirstFound}
use Rattle.search.proofs.Keeping.{take_none, keep-none_more, keep-found}

module _ (test : List ℕ → Bool) (n k from : ℕ) where
  -- the ranks from the range's start up to, without, this one
  unfoldable pub RangeClean : ℕ → Type 0
  RangeClean rank = keep test (stretch n k from rank) ≡ []

  -- a rank of the range, counted from its start
  placed : (rank : ℕ) → from ≤ rank → get_or (drop from (revolving n k)) (rank - from) [] ≡ set_at n k rank
  placed rank low =
      let same : from + (rank - from) ≡ rank = omega arith in
      get_or-drop from (revolving n k) (rank - from) [] ∙ ap (set_at n k) same

  left : (rank : ℕ) → from ≤ rank → rank < binom n k → rank - from < length (drop from (revolving n k))
  left rank low h = omega (arith, length-drop from (revolving n k), revolving-length n k)

  pub rank-start : RangeClean from
  unfolding RangeClean
  rank-start =
      let none : from - from ≡ 0 = omega arith in
      ap (λ (i : ℕ). keep test (take i (drop from (revolving n k)))) none ∙ ap (keep test) (take_none (drop from (revolving n k)))

  pub rank-next : (rank : ℕ) → from ≤ rank → rank < binom n k → RangeClean rank → test (set_at n k rank) ≡ false → RangeClean (rank + 1)
  unfolding RangeClean
  rank-next rank low h clean e =
      let more : rank + 1 - from ≡ rank - from + 1 = omega arith in
      ap (λ (i : ℕ). keep test (take i (drop from (revolving n k)))) more
      ∙ keep-none_more test (drop from (revolving n k)) (rank - from) [] (left rank low h) clean (ap test (placed rank low) ∙ e)

  -- every rank in turn
  pub clean_range : (rank : ℕ) → from ≤ rank → rank ≤ binom n k → ((i : ℕ) → from ≤ i → i < rank → test (set_at n k i) ≡ false) → RangeClean rank
  clean_range rank low h clean =
      from_on RangeClean from rank rank-start (λ i a b before. rank-next i a (omega (arith, b, h)) before (clean i a b)) rank low (le_refl rank)

  pub rank-first : (rank to : ℕ) → from ≤ rank → rank < to → to ≤ binom n k → keep test (stretch n k from rank) ≡ [] → test (set_at n k rank) ≡ true
      → (later : List (List ℕ)) × (keep test (stretch n k from to) ≡ set_at n k rank ∷ later)
  rank-first rank to low high h clean e =
      let part = drop from (revolving n k) in
      let i = rank - from in
      let less : i < to - from = omega arith in
      let short : length (stretch n k from to) ≡ to - from = length-take-le (to - from) part
      (omega (arith, length-drop from (revolving n k), revolving-length n k)) in
      let here : get_or (stretch n k from to) i [] ≡ set_at n k rank = get_or-take (to - from) part i [] less ∙ placed rank low in
      let rest = keep test (drop (suc i) (stretch n k from to)) in (
        rest,
        keep-found test (stretch n k from to) i [] (omega (arith, short))
            (ap (keep test) (take-take i (to - from) part (omega arith)) ∙ clean) (ap test here ∙ e)
            ∙ ap {B = List (List ℕ)} (λ s. s ∷ rest) here,
      )

  pub rank-found : (rank to : ℕ) (held : List ℕ) → from ≤ rank → rank < to → to ≤ binom n k → RangeClean rank
      → true ≡ test (set_at n k rank) → take k held ≡ set_at n k rank → FirstRank test n k from to (Some rank) held
  unfolding RangeClean
  rank-found rank to held low high h clean e here = record { low = low; high = high; clean = clean; found = (sym e, here) }

  pub rank-none : (to : ℕ) (held : List ℕ) → RangeClean to → FirstRank test n k from to None held
  unfolding RangeClean
  rank-none to held clean = clean

module _ (test : List ℕ → Bool) (n k from to : ℕ) (held : List ℕ) (rises : from ≤ to) (counted : to ≤ binom n k) where
  pub range_found_lem : (found : Found) → FirstFound test n k k from to (Some found) held → FirstRank test n k from to (Some found.rank) held
  range_found_lem found f =
      let at = f.1 in
      let same : found.size ≡ k = omega (arith, at.size_low, at.size_high) in
      let Sized : ℕ → Type 0 = λ j. ((i : ℕ) → from ≤ i → i < found.rank → test (set_at n j i) ≡ false) in
      rank-found test n k from found.rank to held at.rank-low f.0 counted
      (clean_range test n k from found.rank at.rank-low (omega (arith, f.0, counted)) (subst Sized same at.earlier))
      (sym (subst (λ (j : ℕ). test (set_at n j found.rank) ≡ true) same at.passes))
      (subst (λ (j : ℕ). take j held ≡ set_at n j found.rank) same at.shown)

  pub range_clean_lem : FirstFound test n k k from to None held → FirstRank test n k from to None held
  range_clean_lem f =
      rank-none test n k from to held
      (clean_range test n k from to rises counted (λ i a b. f k i (le_refl k) (le_refl k) a b (omega arith)))
