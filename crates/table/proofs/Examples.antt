-- Examples, proved by running the definitions: the scope's texts A, B and C as tables, both sides of every limit, the order of the refusals.
--     record8              a record's 24 bytes: two rows of products, the lowest byte of the masks, shares of a and of b, outer, line
--     table_a, table_b, table_c      the tables of the scope's texts: 9, 9 and 6 wires
use Prim.Native.Nat.{ℕ, suc, ◌+◌, ◌-◌, ◌*◌}
use mathlib.Core.Path.{◌≡◌, refl}
use mathlib.Core.Bool.{true, false, xor}
use mathlib.Core.List.{List, [], ◌∷◌, ◌++◌, map}
use lib.ListN.{replicate}
use Rattle.limits.specs.Limits.{min_shares, max_shares, max_masks, record_bytes, max_table_bytes}
use Rattle.basics.specs.Folds.{up_to}
use Rattle.basics.specs.Told.{values, refusal}
use Rattle.wires.specs.declared.Notion.TheVariants.{Ni, Sni}
use Rattle.wires.specs.Wires.{total, count_a, count_b, masked, breaks, beyond}
use Rattle.wires.specs.Function.{computes}
use Rattle.records.specs.Words.{bit}
use Rattle.records.specs.Layout.{wires, wire_at}
use Rattle.table.specs.Answers.{wrong_length, table_check, function_check}

abbrev pub record8 : ℕ → ℕ → ℕ → ℕ → ℕ → ℕ → ℕ → List ℕ
record8 row0 row1 masks a b outer line =
    row0 ∷ row1 ∷ 0 ∷ 0 ∷ 0 ∷ 0 ∷ 0 ∷ 0 ∷ masks ∷ 0 ∷ 0 ∷ 0 ∷ 0 ∷ 0 ∷ 0 ∷ 0 ∷ a ∷ b ∷ outer ∷ line ∷ 0 ∷ 0 ∷ 0 ∷ 0 ∷ []

-- s00, r0, their sum; s11, s01, r0 + s01, s10, r0 + s01 + s10, s11 + r0 + s01 + s10
abbrev pub table_a : List ℕ
table_a =
    record8 1 0 0 0 0 0 0 ++ record8 0 0 1 0 0 0 0 ++ record8 1 0 1 0 0 1 0
    ++ record8 0 2 0 0 0 0 0 ++ record8 2 0 0 0 0 0 0 ++ record8 2 0 1 0 0 0 0 ++ record8 0 1 0 0 0 0 0 ++ record8 2 1 1 0 0 0 0 ++ record8 2 3 1 0 0
    1 1

-- s00, r0, their sum; s11, s01, s10, s01 + s10, s11 + s01 + s10, s11 + s01 + s10 + r0
abbrev pub table_b : List ℕ
table_b =
    record8 1 0 0 0 0 0 0 ++ record8 0 0 1 0 0 0 0 ++ record8 1 0 1 0 0 1 0
    ++ record8 0 2 0 0 0 0 0 ++ record8 2 0 0 0 0 0 0 ++ record8 0 1 0 0 0 0 0 ++ record8 2 1 0 0 0 0 0 ++ record8 2 3 0 0 0 0 0 ++ record8 2 3 1 0 0
    1 1

-- a0, b0, their sum; a1, b1, their sum
abbrev pub table_c : List ℕ
table_c =
    record8 0 0 0 1 0 0 0 ++ record8 0 0 0 0 1 0 0 ++ record8 0 0 0 1 1 1 0 ++ record8 0 0 0 2 0 0 0 ++ record8 0 0 0 0 2 0 0 ++ record8 0 0 0 2 2 1 1

-- A's wires 2 and 8 are outer
pub outer-wires : map (λ w. w.outer) (wires table_a) ≡ false ∷ false ∷ true ∷ false ∷ false ∷ false ∷ false ∷ false ∷ true ∷ []
unfolding up_to
outer-wires = refl

-- which of the functions 1, 2 and 3 the three compute: the product, the product, the sum
pub functions : (map (function_check table_a 2 1) (1 ∷ 2 ∷ 3 ∷ []) ≡ values (1 ∷ []) ∷ values (0 ∷ []) ∷ values (0 ∷ []) ∷ [])
    × (map (function_check table_b 2 1) (1 ∷ 2 ∷ 3 ∷ []) ≡ values (1 ∷ []) ∷ values (0 ∷ []) ∷ values (0 ∷ []) ∷ [])
    × (map (function_check table_c 2 0) (1 ∷ 2 ∷ 3 ∷ []) ≡ values (0 ∷ []) ∷ values (1 ∷ []) ∷ values (0 ∷ []) ∷ [])
unfolding computes beyond masked bit up_to xor
functions = (refl, refl, refl)

-- a0 and a1 as outer wires: operand a, and with b0 in place of a1 none of the three
pub copies :
    (map (function_check (record8 0 0 0 1 0 1 0 ++ record8 0 0 0 2 0 1 1) 2 0) (1 ∷ 2 ∷ 3 ∷ [])
    ≡ values (0 ∷ []) ∷ values (0 ∷ []) ∷ values (1 ∷ []) ∷ [])
    ×
    (map (function_check (record8 0 0 0 1 0 1 0 ++ record8 0 0 0 0 1 1 1) 2 0) (1 ∷ 2 ∷ 3 ∷ [])
    ≡ values (0 ∷ []) ∷ values (0 ∷ []) ∷ values (0 ∷ []) ∷ [])
unfolding computes beyond masked bit up_to xor
copies = (refl, refl)

-- which wires break by themselves: none of A; wires 6 and 7 of B, under both notions; of C none under NI and the outer ones under SNI
pub singles_of_A : (map (λ w. breaks Ni 2 1 (map (wire_at table_a) (w ∷ []))) (up_to 9) ≡ replicate 9 false)
    × (map (λ w. breaks Sni 2 1 (map (wire_at table_a) (w ∷ []))) (up_to 9) ≡ replicate 9 false)
unfolding breaks count_a masked bit up_to xor
singles_of_A = (refl, refl)

pub singles_of_B : (map (λ w. breaks Ni 2 1 (map (wire_at table_b) (w ∷ []))) (up_to 9) ≡ replicate 6 false ++ true ∷ true ∷ false ∷ [])
    × (map (λ w. breaks Sni 2 1 (map (wire_at table_b) (w ∷ []))) (up_to 9) ≡ replicate 6 false ++ true ∷ true ∷ false ∷ [])
unfolding breaks count_a masked bit up_to xor
singles_of_B = (refl, refl)

pub singles_of_C : (map (λ w. breaks Ni 2 0 (map (wire_at table_c) (w ∷ []))) (up_to 6) ≡ replicate 6 false)
    × (map (λ w. breaks Sni 2 0 (map (wire_at table_c) (w ∷ []))) (up_to 6) ≡ false ∷ false ∷ true ∷ false ∷ false ∷ true ∷ [])
unfolding breaks count_a masked bit up_to xor
singles_of_C = (refl, refl)

-- a's and b's shares are counted apart: s00 depends on one of each; and what cancels is not seen: s01 + s10 and s01 leave s10
pub counted_apart : (count_a 2 (total (map (wire_at table_b) (0 ∷ []))) ≡ 1) × (count_b 2 (total (map (wire_at table_b) (0 ∷ []))) ≡ 1)
    × (count_a 2 (total (map (wire_at table_b) (6 ∷ []))) ≡ 2) × (count_a 2 (total (map (wire_at table_b) (4 ∷ 6 ∷ []))) ≡ 1)
unfolding count_a bit up_to xor
counted_apart = (refl, refl, refl, refl)

-- s00 + s01 has one row and two columns: byte 0 is row 0
pub rows_and_columns : let t = total (map (wire_at (record8 3 0 0 0 0 0 0)) (0 ∷ [])) in
    (count_a 2 t ≡ 1) × (count_b 2 t ≡ 2) × (t.product 0 1 ≡ true) × (t.product 1 0 ≡ false)
unfolding count_a bit up_to xor
rows_and_columns = (refl, refl, refl, refl)

-- ---- the limits

-- 11: shares 2 to 8, masks up to 64
pub share-limits :
    (map (λ n. table_check [] n max_masks) (0 ∷ 1 ∷ min_shares ∷ max_shares ∷ suc max_shares ∷ [])
    ≡ refusal 11 ∷ refusal 11 ∷ values [] ∷ values [] ∷ refusal 11 ∷ [])
    × (table_check [] max_shares (suc max_masks) ≡ refusal 11)
unfolding up_to
share-limits = (refl, refl)

-- 12: a multiple of 24, up to 12,288; it wins over a record that 13 would turn down, and 11 over it
pub length-limits : (table_check (record8 4 0 0 0 0 0 0 ++ 0 ∷ []) 2 0 ≡ refusal 12)
    × (map (λ n. table_check (replicate n 0) 2 0) (8 ∷ 12 ∷ 23 ∷ 36 ∷ []) ≡ replicate 4 (refusal 12))
    × (table_check (replicate (max_table_bytes + record_bytes) 0) 2 0 ≡ refusal 12)
    × (table_check (replicate (max_table_bytes + 2 * record_bytes) 0) 2 0 ≡ refusal 12)
    × (wrong_length (replicate max_table_bytes 0) ≡ false) × (table_check (0 ∷ []) (suc max_shares) 0 ≡ refusal 11)
unfolding up_to
length-limits = (refl, refl, refl, refl, refl, refl)

-- 13: a column, a row, a share of a, of b, a mask beyond, or a byte 18 of 2; with one share more, one mask more, all but the last are taken
abbrev beyond_two : List (List ℕ)
beyond_two =
    record8 4 0 0 0 0 0 0 ∷ (0 ∷ 0 ∷ 1 ∷ 0 ∷ 0 ∷ 0 ∷ 0 ∷ 0 ∷ replicate 16 0) ∷ record8 0 0 0 4 0 0 0 ∷ record8 0 0 0 0 4 0 0 ∷ record8 0 0 2 0 0 0 0 ∷
    record8 0 0 0 0 0 2 0 ∷ []

pub record_limits : (map (λ t. table_check t 2 1) beyond_two ≡ replicate 6 (refusal 13))
    × (map (λ t. table_check t 3 2) beyond_two ≡ replicate 5 (values []) ++ refusal 13 ∷ [])
unfolding beyond bit up_to
record_limits = (refl, refl)

-- every bit at the limits themselves; the last mask; the second record is looked at too; bytes 19 to 23 are not
pub full_records : (table_check (replicate 18 255 ++ 1 ∷ 255 ∷ 255 ∷ 255 ∷ 255 ∷ 255 ∷ []) max_shares max_masks ≡ values [])
    × (table_check (replicate 15 0 ++ 128 ∷ replicate 8 0) max_shares max_masks ≡ values [])
    × (table_check (replicate 15 0 ++ 128 ∷ replicate 8 0) max_shares (max_masks - 1) ≡ refusal 13)
    × (table_check (replicate 7 0 ++ 128 ∷ replicate 16 0) (max_shares - 1) max_masks ≡ refusal 13)
    × (table_check (replicate record_bytes 0 ++ record8 0 0 0 0 0 2 0) 2 0 ≡ refusal 13)
unfolding beyond bit up_to
full_records = (refl, refl, refl, refl, refl)

-- 20 comes last, and only for functions other than 1 to 3; an empty table adds up to none of them
pub function-limits : (function_check (record8 4 0 0 0 0 0 0) 2 0 0 ≡ refusal 13) × (function_check [] 2 0 0 ≡ refusal 20)
    × (function_check [] 2 0 4 ≡ refusal 20)
    × (map (function_check [] 2 0) (1 ∷ 2 ∷ 3 ∷ []) ≡ values (0 ∷ []) ∷ values (0 ∷ []) ∷ values (0 ∷ []) ∷ [])
unfolding computes beyond masked bit up_to xor
function-limits = (refl, refl, refl, refl)
