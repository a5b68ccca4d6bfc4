-- Sets that have a next one, and the next one.
--     some_wire, wire_below               such a set has a wire, and its wires are the table's
--     next-is-set, has-next_at, next_at   the next set, also by its rank
use Prim.Native.Nat.{ℕ, ◌+◌, ◌<◌}
use native.Mathlib.Omega.{arith}
use mathlib.Core.Path.{◌≡◌, sym, ◌∙◌, ap, ap₂, subst}
use mathlib.Core.Bool.{true, ◌&&◌}
use mathlib.Core.List.{List, [], ◌∷◌}
use lib.Dec.{eqb}
use lib.ListN.{length, get_or}
use Rattle.basics.proofs.Tests.{and_right}
use Rattle.counts.specs.Counts.{binom}
use Rattle.counts.proofs.Binomial.{binom-zero}
use Rattle.revolving.specs.Order.{set_at, is_set, rank_of, rising, below}
use Rattle.revolving.proofs.Rising.{is_set-parts}
use Rattle.revolving.proofs.Revolving.{rank_unique, set_at-is-set}
use Rattle.revolving.proofs.Unranking.{wire_inside}
use Rattle.walk.specs.Neighbours.{HasNext, next_set}

pub some_wire : (n : ℕ) (s : List ℕ) → HasNext n s → 0 < length s
some_wire n [] next = let z : ⊥ = omega (arith, next.later, binom-zero n) in absurd z
some_wire n (x ∷ l) next = omega arith

pub wire_below : (n : ℕ) (s : List ℕ) (i : ℕ) → HasNext n s → i < length s → get_or s i 0 < n
wire_below n s i next h = wire_inside n s i (and_right (eqb (length s) (length s)) (rising s && below n s) next.is-set) h

pub next-is-set : (n : ℕ) (s : List ℕ) → HasNext n s → is_set n (length s) (next_set n s) ≡ true
unfolding next_set
next-is-set n s next = set_at-is-set n (length s) (rank_of n s + 1) next.later

-- a set by its rank: it has a next one where the rank has
module _ (n k r : ℕ) (s : List ℕ) (here : s ≡ set_at n k r) (more : r + 1 < binom n k) where
  set_here : is_set n k s ≡ true
  set_here = ap (is_set n k) here ∙ set_at-is-set n k r (omega arith)

  size_here : length s ≡ k
  size_here = (is_set-parts n k s set_here).0

  rank-here : rank_of n s ≡ r
  rank-here = rank_unique n k r s (omega arith) (sym here)

  pub has-next_at : HasNext n s
  has-next_at = record {
    is-set = subst (λ (m : ℕ). is_set n m s ≡ true) (sym size_here) set_here;
    later = subst (λ (m : ℕ). rank_of n s + 1 < binom n m) (sym size_here) (omega (arith, rank-here));
  }

  pub next_at : next_set n s ≡ set_at n k (r + 1)
  unfolding next_set
  next_at = ap₂ (λ (m i : ℕ). set_at n m (i + 1)) size_here rank-here
