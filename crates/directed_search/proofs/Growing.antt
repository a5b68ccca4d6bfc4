-- The turns of the loop over sizes.
--     Smaller                     no smaller set passes a test, by size and rank
--     no_smaller, size_done       before the first turn, and after a turn
--     none_below                  as the descent asks it
--     size_found, sizes-done      the result, where a set was found and where none was
use Prim.Native.Nat.{ℕ, zero, suc, ◌+◌, ◌≤◌, ◌<◌, zero-le}
use native.Mathlib.Decide.{dec_lt}
use native.Mathlib.Omega.{arith}
use mathlib.Core.Path.{◌≡◌, refl, sym, ◌∙◌, ap, subst}
use mathlib.Core.Bool.{Bool, false}
use mathlib.Core.List.{List, [], ◌∷◌, ◌++◌}
use lib.ListN.{length, take, drop}
use Rattle.std.proofs.Common.{None, Some}
use lib.Seq.{take_at}
use Rattle.limits.specs.Limits.{max_shares, max_masks}
use Rattle.counts.specs.Counts.{binom}
use Rattle.revolving.specs.Order.{set_at}
use Rattle.revolving.proofs.Rising.{is_set-parts}
use Rattle.revolving.proofs.Revolving.{set_at-is-set}
use Rattle.wires.specs.declared.Notion.{Notion}
use Rattle.wires.proofs.Breaks.{empty-breaks-nothing}
use Rattle.records.specs.Layout.{wire_count}
use Rattle.breaking.specs.Breaking.{is_breaking}
use Rattle.search.specs.Search.{searched, FirstSet}
use Rattle.search.proofs.Ranges.{clean_range}
use Rattle.search.proofs.Sizes.{all-smaller, none_found, set_found}
use Rattle.parts.specs.Parts.{members, NoneBelow}
use Rattle.parts.proofs.Ranks.{members_at}
use Rattle.directed_search.specs.Least.{LeastRank}

pub record Smaller (test : List ℕ → Bool) (n size : ℕ) : Type 0 where
  pub ranks : (k i : ℕ) → 1 ≤ k → k < size → i < binom n k → test (set_at n k i) ≡ false

pub no_smaller : (test : List ℕ → Bool) (n : ℕ) → Smaller test n 1
no_smaller test n = record { ranks = λ k i a b. let z : ⊥ = omega (arith, a, b) in absurd z }

module _ (test : List ℕ → Bool) (n size : ℕ) (smaller : Smaller test n size) where
  pub size_done : LeastRank test n size None → Smaller test n (size + 1)
  size_done none = record { ranks = λ k i a b h. go k i a b h (dec_lt k size) }
    where
      go : (k i : ℕ) → 1 ≤ k → k < size + 1 → i < binom n k → Dec (k < size) → test (set_at n k i) ≡ false
      go k i a b h (yes p) = smaller.ranks k i a p h
      go k i a b h (no p) =
          let same : k ≡ size = omega (arith, b, p) in
          ap (λ (j : ℕ). test (set_at n j i)) same ∙ none i (subst (λ (j : ℕ). i < binom n j) same h)

  pub size_found : (rank order : ℕ) (held held₀ : List ℕ) → 1 ≤ size → size ≤ order → LeastRank test n size (Some rank)
      → held ≡ set_at n size rank ++ drop size held₀ → FirstSet test (searched n order) (Some size) held
  size_found rank order held held₀ some few least wrote =
      set_found test n size order rank held some few least.within (all-smaller test n size some smaller.ranks)
      (clean_range test n size 0 rank zero-le (omega (arith, least.within)) (λ i a b. least.earlier i b)) (sym least.found)
      (ap (take size) wrote
      ∙ take_at (set_at n size rank) (drop size held₀) size (is_set-parts n size (set_at n size rank) (set_at-is-set n size rank least.within)).0)

pub sizes-done : (test : List ℕ → Bool) (n order size : ℕ) → Smaller test n size → 1 ≤ size → order < size → size ≤ order + 1
    → FirstSet test (searched n order) None []
sizes-done test n order size smaller some low high =
    none_found test n order size [] low high (all-smaller test n size some smaller.ranks)

pub none_below : (notion : Notion) (table : List ℕ) (size : ℕ) → Smaller (is_breaking notion table max_shares max_masks) (wire_count table) size
    → NoneBelow (is_breaking notion table max_shares max_masks) (wire_count table) size
unfolding NoneBelow is_breaking
none_below notion table size smaller s less = go (length (members n s)) refl
  where
    n : ℕ
    n = wire_count table

    nothing : (l : List ℕ) → length l ≡ 0 → is_breaking notion table max_shares max_masks l ≡ false
    nothing [] e = empty-breaks-nothing notion max_shares max_masks
    nothing (x ∷ l) e = let z : ⊥ = omega (arith, e) in absurd z

    go : (k : ℕ) → length (members n s) ≡ k → is_breaking notion table max_shares max_masks (members n s) ≡ false
    go zero e = nothing (members n s) e
    go (suc k) e =
        let at = members_at n (suc k) s e in
        ap (is_breaking notion table max_shares max_masks) (sym at.1) ∙ smaller.ranks (suc k) _ (omega arith) (omega (arith, e, less)) at.0
