-- What the check of a text part turns down, as the scope says it ("What each operation turns down"): its conditions in the order in which they are tested.
--     part_conditions     given text, table and wire number only
use Rattle.std.specs.Prelude.{ℕ, ◌+◌, ◌≤◌, ◌<◌, List, [], ◌∷◌, length}
use Rattle.basics.specs.Conditions.{Condition, ◌when◌}
use Rattle.records.specs.Layout.{record_at, wire_count, offset_of, length_of}
use Rattle.table.specs.Conditions.{WrongLength}

-- "of the table's tests 12 alone, then 21 for a wire beyond the table, 22 for a part outside the text"
abbrev pub part_conditions : List ℕ → List ℕ → ℕ → List Condition
part_conditions text table wire =
    12 when WrongLength table
    ∷ 21 when (wire_count table ≤ wire)
    ∷ 22 when (length text < offset_of (record_at table wire) + length_of (record_at table wire))
    ∷ []
