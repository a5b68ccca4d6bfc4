-- The marks of a directed search, and what is kept of the rank of the chosen wires.
--     is_open, is_closed, is_chosen     what a mark says of a wire
--     Fits         a set has all chosen wires, and its other wires are open
--     Settled      the lower of what was kept and of a rank, which counts where its set breaks
use Rattle.std.specs.Prelude.{ℕ, ◌≤◌, ◌<◌, ◌≡◌, ◌⊎◌, Bool, true, List, eqb, get_or}

unfoldable pub is_open : List ℕ → ℕ → Bool
is_open marks wire = eqb (get_or marks wire 0) 0

unfoldable pub is_closed : List ℕ → ℕ → Bool
is_closed marks wire = eqb (get_or marks wire 0) 1

unfoldable pub is_chosen : List ℕ → ℕ → Bool
is_chosen marks wire = eqb (get_or marks wire 0) 2

pub record Fits (marks : List ℕ) (n : ℕ) (s : ℕ → Bool) : Type 0 where
  pub has : (w : ℕ) → w < n → is_chosen marks w ≡ true → s w ≡ true
  pub only : (w : ℕ) → w < n → s w ≡ true → (is_chosen marks w ≡ true) ⊎ (is_open marks w ≡ true)

pub record Settled (breaks : Bool) (rank before after : ℕ) : Type 0 where
  pub most : after ≤ before
  pub lower : breaks ≡ true → after ≤ rank
  pub ranked : after < before → (breaks ≡ true) × (after ≡ rank)
