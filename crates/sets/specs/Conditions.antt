-- What each entry of `sets` turns down, as the scope says it ("What each operation turns down"): its conditions in the order in which they are tested.
--     count_conditions, set_conditions, rank_conditions     the entries'
--     Falls       a wire of a set is not below the next
--     Beyond      a wire of a set is none of the table's
use Rattle.std.specs.Prelude.{ℕ, suc, ◌≤◌, ◌<◌, ◌⊎◌, List, [], ◌∷◌, length, get_or}
use Rattle.limits.specs.Limits.{max_wires, max_size}
use Rattle.basics.specs.Conditions.{Condition, ◌when◌, Some}
use Rattle.counts.specs.Counts.{binom}

-- "12 if over 512 wires, 17": size over 7
abbrev pub count_conditions : ℕ → ℕ → List Condition
count_conditions wires size = 12 when (max_wires < wires) ∷ 17 when (max_size < size) ∷ []

-- "12, 17, 16, then 18 if the rank is not below the count": 16 for a buffer shorter than the size
abbrev pub set_conditions : ℕ → ℕ → ℕ → List ℕ → List Condition
set_conditions wires size rank buffer =
    12 when (max_wires < wires)
    ∷ 17 when (max_size < size)
    ∷ 16 when (length buffer < size)
    ∷ 18 when (binom wires size ≤ rank)
    ∷ []

abbrev pub Falls : List ℕ → Type 0
Falls set = Some (length set) (λ i. (suc i < length set) × (get_or set (suc i) 0 ≤ get_or set i 0))

abbrev pub Beyond : ℕ → List ℕ → Type 0
Beyond wires set = Some (length set) (λ i. wires ≤ get_or set i 0)

-- "12, 17, then 21, wires not strictly rising or beyond the table"
abbrev pub rank_conditions : ℕ → List ℕ → List Condition
rank_conditions wires set =
    12 when (max_wires < wires)
    ∷ 17 when (max_size < length set)
    ∷ 21 when (Falls set ⊎ Beyond wires set)
    ∷ []
