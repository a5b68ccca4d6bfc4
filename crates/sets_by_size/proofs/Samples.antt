-- Examples, proved by running the definitions.
--     counts     the numbers of sets
use mathlib.Core.Path.{◌≡◌, refl}
use mathlib.Core.List.{[], ◌∷◌}
use Rattle.counts.specs.Counts.{binom}
use Rattle.sets_by_size.specs.Counted.{set_counts, counted, total_of}

pub counts : (set_counts 5 3 ≡ 5 ∷ 10 ∷ 10 ∷ [])
    × (counted 2 3 ≡ 2 ∷ 1 ∷ 0 ∷ 0 ∷ 0 ∷ 0 ∷ 0 ∷ [])
    × (total_of (counted 5 3) ≡ 25)
    × (total_of (18446744073709551615 ∷ 1 ∷ []) ≡ 18446744073709551615)
unfolding binom
counts = (refl, refl, refl, refl)
