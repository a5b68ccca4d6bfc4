-- The numbers as the scope says them, so that a definition and the code can not move one together.
--     for_shares     "shares not 2 to 8 or masks over 64"; the first line's digit is 1 to 7
--     for_tables     "records of 24 bytes with no header, one a wire, at most 512"; a length "over 12,288"
--     for_sets       "the counts for 0 to 512 wires and sizes 0 to 7": "a table of 4,104 numbers"
use mathlib.Core.Path.{◌≡◌, refl}
use Rattle.limits.specs.Limits.{min_shares, max_shares, max_order, max_masks, max_wires, record_bytes, max_table_bytes, max_size, count_numbers}

pub for_shares : (min_shares ≡ 2) × (max_shares ≡ 8) × (max_masks ≡ 64) × (max_order ≡ 7)
for_shares = (refl, refl, refl, refl)

pub for_tables : (record_bytes ≡ 24) × (max_wires ≡ 512) × (max_table_bytes ≡ 12288)
for_tables = (refl, refl, refl)

pub for_sets : (max_size ≡ 7) × (count_numbers ≡ 4104)
for_sets = (refl, refl)
