-- What each entry of `verdict` turns down, as the scope says it ("What each operation turns down"): its conditions in the order in which they are
-- tested, those of every operation on a table first.
--     WrongNotion                               neither NI nor SNI
--     verdict_conditions, range_conditions, dependence_conditions     the entries'
use Rattle.std.specs.Prelude.{ℕ, ◌≤◌, ◌<◌, ◌≡◌, ◌⊎◌, List, [], ◌∷◌, ◌++◌, length}
use Rattle.limits.specs.Limits.{max_size}
use Rattle.basics.specs.Conditions.{Condition, ◌when◌}
use Rattle.counts.specs.Counts.{binom}
use Rattle.records.specs.Layout.{wire_count}
use Rattle.sets.specs.Conditions.{Falls, Beyond}
use Rattle.table.specs.Conditions.{table_conditions}

-- "14, notion not 1 (NI) or 2 (SNI)"
abbrev pub WrongNotion : ℕ → Type 0
WrongNotion notion = (notion ≡ 1 → ⊥) × (notion ≡ 2 → ⊥)

-- "15, order not 1 to shares − 1; 16, answer buffer shorter than the order"
abbrev pub verdict_conditions : List ℕ → ℕ → ℕ → ℕ → ℕ → List ℕ → List Condition
verdict_conditions table shares masks notion order buffer =
    table_conditions table shares masks
    ++ 14 when WrongNotion notion
    ∷ 15 when ((order < 1) ⊎ (shares ≤ order))
    ∷ 16 when (length buffer < order)
    ∷ []

-- "14; 17, size over 7; 16, buffer shorter than the size; 18, bounds not rising from 0 to the count (equal allowed)"
abbrev pub range_conditions : List ℕ → ℕ → ℕ → ℕ → ℕ → ℕ → ℕ → List ℕ → List Condition
range_conditions table shares masks notion size from to buffer =
    table_conditions table shares masks
    ++ 14 when WrongNotion notion
    ∷ 17 when (max_size < size)
    ∷ 16 when (length buffer < size)
    ∷ 18 when ((to < from) ⊎ (binom (wire_count table) size < to))
    ∷ []

-- "14, 17 (more than the largest size), 21 (not strictly rising wires of the table)"
abbrev pub dependence_conditions : List ℕ → ℕ → ℕ → ℕ → List ℕ → List Condition
dependence_conditions table shares masks notion set =
    table_conditions table shares masks
    ++ 14 when WrongNotion notion
    ∷ 17 when (max_size < length set)
    ∷ 21 when (Falls set ⊎ Beyond (wire_count table) set)
    ∷ []
