-- Ranks of one size at which nothing was found.
--     Clean                      from a rank up to, without, another
--     clean-start, clean-next    at none, and at one rank more
--     clean_join, clean-told     at two ranges, one after the other; at each rank
use Prim.Native.Nat.{ℕ, suc, ◌+◌, ◌≤◌, ◌<◌}
use native.Mathlib.Nat.{eq-or-lt_of_le}
use native.Mathlib.Decide.{dec_lt}
use native.Mathlib.Omega.{arith}
use mathlib.Core.Path.{◌≡◌, ◌∙◌, ap}
use mathlib.Core.Logic.{◌⊎◌, inl, inr}
use mathlib.Core.Bool.{Bool, false}
use mathlib.Core.List.{List}
use Rattle.revolving.specs.Order.{set_at}

module _ (test : List ℕ → Bool) (n : ℕ) where
  -- the ranks of a size from `from` up to, without, this one
  unfoldable pub Clean : ℕ → ℕ → ℕ → Type 0
  Clean k from rank = (i : ℕ) → from ≤ i → i < rank → test (set_at n k i) ≡ false

  pub clean-start : (k from : ℕ) → Clean k from from
  unfolding Clean
  clean-start k from i low high = let z : ⊥ = omega arith in absurd z

  pub clean-next : (k from rank : ℕ) → Clean k from rank → test (set_at n k rank) ≡ false → Clean k from (rank + 1)
  unfolding Clean
  clean-next k from rank before e i low high = go (eq-or-lt_of_le high)
    where
      go : (suc i ≡ rank + 1) ⊎ (suc i < rank + 1) → test (set_at n k i) ≡ false
      go (inl p) = let same : i ≡ rank = omega arith in ap (λ (j : ℕ). test (set_at n k j)) same ∙ e
      go (inr p) = before i low (omega arith)

  pub clean_join : (k from middle rank : ℕ) → Clean k from middle → ((i : ℕ) → middle ≤ i → i < rank → test (set_at n k i) ≡ false) → Clean k from rank
  unfolding Clean
  clean_join k from middle rank first second i low high = go (dec_lt i middle)
    where
      go : Dec (i < middle) → test (set_at n k i) ≡ false
      go (yes p) = first i low p
      go (no p) = second i (omega arith) high

  pub clean-told : (k from rank : ℕ) → Clean k from rank → (i : ℕ) → from ≤ i → i < rank → test (set_at n k i) ≡ false
  unfolding Clean
  clean-told k from rank clean = clean
