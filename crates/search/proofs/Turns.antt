-- The turns of the search's loops over size and rank, over plain numbers and lists.
--     held_first                                where the walk over a size begins
--     Smaller, smaller-start, smaller-next      nothing found at the ranks of smaller sizes
--     nothing-found, something_found            the search's result
use Prim.Native.Nat.{ℕ, suc, ◌+◌, ◌≤◌, ◌<◌}
use native.Mathlib.Nat.{eq-or-lt_of_le}
use native.Mathlib.Omega.{arith}
use mathlib.Core.Path.{◌≡◌, sym, ◌∙◌, ap, subst}
use mathlib.Core.Logic.{◌⊎◌, inl, inr}
use mathlib.Core.Bool.{Bool, true, false}
use mathlib.Core.List.{List}
use lib.ListN.{take}
use Rattle.std.specs.Prelude.{Option, None, Some}
use Rattle.wires.specs.declared.Notion.{Notion}
use Rattle.counts.specs.Counts.{binom}
use Rattle.revolving.specs.Order.{set_at}
use Rattle.running.specs.declared.Tally.{Tally}
use Rattle.running.specs.Kept.{Kept, Stands}
use Rattle.runs.proofs.Clean.{Clean}
use Rattle.search.specs.declared.Found.{Found}
use Rattle.search.specs.Search.{FirstFound}

-- where a walk over a size, or over a range of its ranks, begins
pub held_first : (notion : Notion) (table : List ℕ) (n k from end count : ℕ) (held : List ℕ) (tally : Tally) → end ≤ count → count ≡ binom n k
    → (from < binom n k → (take k held ≡ set_at n k from) × Kept notion table (take k held) tally) → from < end → Stands notion table n k from held tally
held_first notion table n k from end count held tally few counted started less =
    let there = started (omega (arith, less, few, counted)) in record { here = there.0; kept = there.1 }

module _ (test : List ℕ → Bool) (n : ℕ) where
  -- the sizes from `low` up to, without, this one, at the ranks of a range
  module _ (low from to : ℕ) where
    unfoldable pub Smaller : ℕ → Type 0
    Smaller size = (k r : ℕ) → low ≤ k → k < size → from ≤ r → r < to → r < binom n k → test (set_at n k r) ≡ false

    pub smaller-start : Smaller low
    unfolding Smaller
    smaller-start k r at_least_lem less a b c = let z : ⊥ = omega arith in absurd z

    pub smaller-next : (size end rank count : ℕ) → Smaller size → Clean test n size from rank → end ≤ rank → count ≡ binom n size
        → ((i : ℕ) → i < count → i < to → i < end) → Smaller (size + 1)
    unfolding Smaller Clean
    smaller-next size end rank count before clean out counted all k r at_least_lem less a b c = go (eq-or-lt_of_le less)
      where
        go : (suc k ≡ size + 1) ⊎ (suc k < size + 1) → test (set_at n k r) ≡ false
        go (inr p) = before k r at_least_lem (omega arith) a b c
        go (inl p) =
            let same : k ≡ size = omega arith in
            let inside : r < binom n size = subst (λ (j : ℕ). r < binom n j) same c in
            ap (λ (j : ℕ). test (set_at n j r)) same ∙ clean r a (omega (arith, out, all r (omega (arith, inside, counted)) b))

    pub nothing-found : (high size : ℕ) (found : Option Found) (held : List ℕ) → found ≡ None → high < size → Smaller size
        → FirstFound test n low high from to found held
    unfolding Smaller
    nothing-found high size found held nil out clean =
        subst (λ (f : Option Found). FirstFound test n low high from to f held) (sym nil)
        (λ k r at_least_lem at_most a b c. clean k r at_least_lem (omega arith) a b c)

    pub something_found : (high size rank end count : ℕ) (held : List ℕ) → low ≤ size → size ≤ high → from ≤ rank → rank < end → end ≤ count → count ≡ binom n size
        → end ≤ to → Smaller size → Clean test n size from rank → true ≡ test (set_at n size rank) → take size held ≡ set_at n size rank
        → FirstFound test n low high from to (Some (record { size = size; rank = rank })) held
    unfolding Smaller Clean
    something_found high size rank end count held at_least_lem at_most a b few counted c smaller clean e here = (
      omega arith,
      record {
        size_low = at_least_lem;
        size_high = at_most;
        rank-low = a;
        rank_in = omega (arith, b, few, counted);
        passes = sym e;
        shown = here;
        smaller = smaller;
        earlier = clean;
      },
    )
