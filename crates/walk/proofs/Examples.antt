-- The definitions run on small orders.
--     three_of_five   of the ten sets of 3 out of 5 wires the first step, the step that the misprint in 002 gets wrong, and the last
--     two_of_four     the first three steps of the sets of 2 out of 4 wires, with what leaves and enters
use mathlib.Core.Path.{◌≡◌, refl}
use mathlib.Core.List.{[], ◌∷◌}
use Rattle.revolving.specs.Order.{revolving}
use Rattle.walk.specs.Neighbours.{Exchanged, next_set}

pub three_of_five : (next_set 5 (0 ∷ 1 ∷ 2 ∷ []) ≡ 0 ∷ 2 ∷ 3 ∷ []) × (next_set 5 (2 ∷ 3 ∷ 4 ∷ []) ≡ 0 ∷ 2 ∷ 4 ∷ []) × (next_set 5 (1 ∷ 2 ∷ 4 ∷ []) ≡ 0 ∷ 1 ∷ 4 ∷ [])
unfolding next_set revolving
three_of_five = (refl, refl, refl)

pub two_of_four : (next_set 4 (0 ∷ 1 ∷ []) ≡ 1 ∷ 2 ∷ []) × Exchanged (0 ∷ 1 ∷ []) (1 ∷ 2 ∷ []) 0 2
    × (next_set 4 (1 ∷ 2 ∷ []) ≡ 0 ∷ 2 ∷ []) × Exchanged (1 ∷ 2 ∷ []) (0 ∷ 2 ∷ []) 1 0
    × (next_set 4 (0 ∷ 2 ∷ []) ≡ 2 ∷ 3 ∷ []) × Exchanged (0 ∷ 2 ∷ []) (2 ∷ 3 ∷ []) 0 3
unfolding next_set revolving
two_of_four = (
  refl,
  record { was = refl; gone = refl; come = refl; fresh = refl; rest = refl },
  refl,
  record { was = refl; gone = refl; come = refl; fresh = refl; rest = refl },
  refl,
  record { was = refl; gone = refl; come = refl; fresh = refl; rest = refl },
)
