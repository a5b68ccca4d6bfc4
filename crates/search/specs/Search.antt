-- The sets that a verdict and a range check look at, in the published order (scope, "Numbering and dividing"), and those of them that break.
--     searched n t               the sets of 1 to t out of n wires, in rising size and rank
--     stretch n k from to        the sets of k out of n wires at the ranks from `from` up to, without, `to`
--     breaking_sets               those of a list of sets that break it, in their order
--     first                      the first set of a list, or the empty one
--     FirstSet                   a buffer begins with the first set of a list that passes a test, and its size is given; none where no set does
--     FirstRank                  the first rank of a range whose set passes a test is given, and a buffer begins with that set; none where no set does
--     FirstAt, FirstFound        what is found first among the sets of some sizes, at ranks of a range of each; none where nothing is found
use Rattle.std.specs.Prelude.{ℕ, zero, suc, ◌-◌, ◌≤◌, ◌<◌, ◌≡◌, Bool, true, false, List, [], ◌∷◌, ◌++◌, length, take, drop, Option, None, Some}
use Rattle.basics.specs.Folds.{keep}
use Rattle.wires.specs.declared.Notion.{Notion}
use Rattle.breaking.specs.Breaking.{is_breaking}
use Rattle.counts.specs.Counts.{binom}
use Rattle.revolving.specs.Order.{revolving, set_at}
use Rattle.search.specs.declared.Found.{Found}

unfoldable pub searched : ℕ → ℕ → List (List ℕ)
searched n zero = []
searched n (suc t) = searched n t ++ revolving n (suc t)

abbrev pub stretch : ℕ → ℕ → ℕ → ℕ → List (List ℕ)
stretch n k from to = take (to - from) (drop from (revolving n k))

abbrev pub breaking_sets : Notion → List ℕ → ℕ → ℕ → List (List ℕ) → List (List ℕ)
breaking_sets notion table shares masks = keep (is_breaking notion table shares masks)

abbrev pub first : List (List ℕ) → List ℕ
first [] = []
first (set ∷ later) = set

-- the first set of a list that passes a test has this size, and a buffer begins with it
pub record ShowsSet (test : List ℕ → Bool) (sets : List (List ℕ)) (size : ℕ) (held : List ℕ) : Type 0 where
  pub some : keep test sets ≡ [] → ⊥
  pub size_is : size ≡ length (first (keep test sets))
  pub set_is : take size held ≡ first (keep test sets)

abbrev pub FirstSet : (List ℕ → Bool) → List (List ℕ) → Option ℕ → List ℕ → Type 0
FirstSet test sets None held = keep test sets ≡ []
FirstSet test sets (Some size) held = ShowsSet test sets size held

-- this rank is the first in a range whose set passes a test, and a buffer begins with that set
pub record ShowsRank (test : List ℕ → Bool) (n k from to rank : ℕ) (held : List ℕ) : Type 0 where
  pub low : from ≤ rank
  pub high : rank < to
  pub clean : keep test (stretch n k from rank) ≡ []
  pub found : (test (set_at n k rank) ≡ true) × (take k held ≡ set_at n k rank)

abbrev pub FirstRank : (List ℕ → Bool) → ℕ → ℕ → ℕ → ℕ → Option ℕ → List ℕ → Type 0
FirstRank test n k from to None held = keep test (stretch n k from to) ≡ []
FirstRank test n k from to (Some rank) held = ShowsRank test n k from to rank held

-- the set at this size and rank passes a test, a buffer begins with it, and no set before it does: of the sizes from `low` on, and of each size of
-- the ranks from `from` up to, without, `to`
pub record FirstAt (test : List ℕ → Bool) (n low high from to size rank : ℕ) (held : List ℕ) : Type 0 where
  pub size_low : low ≤ size
  pub size_high : size ≤ high
  pub rank-low : from ≤ rank
  pub rank_in : rank < binom n size
  pub passes : test (set_at n size rank) ≡ true
  pub shown : take size held ≡ set_at n size rank
  pub smaller : (k r : ℕ) → low ≤ k → k < size → from ≤ r → r < to → r < binom n k → test (set_at n k r) ≡ false
  pub earlier : (r : ℕ) → from ≤ r → r < rank → test (set_at n size r) ≡ false

abbrev pub FirstFound : (List ℕ → Bool) → ℕ → ℕ → ℕ → ℕ → ℕ → Option Found → List ℕ → Type 0
FirstFound test n low high from to None held =
    (k r : ℕ) → low ≤ k → k ≤ high → from ≤ r → r < to → r < binom n k → test (set_at n k r) ≡ false
FirstFound test n low high from to (Some found) held = (found.rank < to) × FirstAt test n low high from to found.size found.rank held
