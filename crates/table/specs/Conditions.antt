-- What each entry of `table` turns down, as the scope says it ("What each operation turns down"): its conditions in the order in which they are tested.
--     WrongShares, WrongLength, WrongRecord     the conditions of every operation on a table
--     BitBeyond                                 a record with a bit beyond shares or masks
--     table_conditions                           the list that every operation on a table begins with
--     function_conditions                        the function check's
use Rattle.std.specs.Prelude.{ℕ, ◌%◌, ◌≤◌, ◌<◌, ◌≡◌, ◌⊎◌, true, List, [], ◌∷◌, ◌++◌, length}
use Rattle.limits.specs.Limits.{min_shares, max_shares, max_masks, record_bytes, max_table_bytes}
use Rattle.basics.specs.Conditions.{Condition, ◌when◌, Some}
use Rattle.wires.specs.Wires.{Terms}
use Rattle.records.specs.Layout.{kind_of, record_at, wire_at, wire_count}

-- "11, shares not 2 to 8 or masks over 64"
abbrev pub WrongShares : ℕ → ℕ → Type 0
WrongShares shares masks = (shares < min_shares) ⊎ (max_shares < shares) ⊎ (max_masks < masks)

-- "12, length no multiple of 24 or over 12,288"
abbrev pub WrongLength : List ℕ → Type 0
WrongLength table = (length table % record_bytes ≡ 0 → ⊥) ⊎ (max_table_bytes < length table)

-- of the bits that a record has
abbrev pub BitBeyond : ℕ → ℕ → Terms → Type 0
BitBeyond shares masks t =
    Some max_shares (λ i. Some max_shares (λ j. (t.product i j ≡ true) × ((shares ≤ i) ⊎ (shares ≤ j))))
    ⊎ Some max_shares (λ i. (t.share_a i ≡ true) × (shares ≤ i))
    ⊎ Some max_shares (λ j. (t.share_b j ≡ true) × (shares ≤ j))
    ⊎ Some max_masks (λ k. (t.mask k ≡ true) × (masks ≤ k))

-- "13, a record with a bit beyond shares or masks, or byte 18 over 1"
abbrev pub WrongRecord : List ℕ → ℕ → ℕ → Type 0
WrongRecord table shares masks =
    Some (wire_count table) (λ wire. BitBeyond shares masks (wire_at table wire).terms ⊎ (1 < kind_of (record_at table wire)))

-- "every operation on a table first"
abbrev pub table_conditions : List ℕ → ℕ → ℕ → List Condition
table_conditions table shares masks =
    11 when WrongShares shares masks
    ∷ 12 when WrongLength table
    ∷ 13 when WrongRecord table shares masks
    ∷ []

-- "20, not 1 to 3"
abbrev pub function_conditions : List ℕ → ℕ → ℕ → ℕ → List Condition
function_conditions table shares masks function = table_conditions table shares masks ++ 20 when ((function < 1) ⊎ (3 < function)) ∷ []
