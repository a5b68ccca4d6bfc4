-- Which wires of a table carry which mask.
--     carries          whether a wire carries a mask: the mask is in what it computes
--     highest_below     the highest number below a limit that passes a test, counted from 1; 0 where none does
--     highest_at        where that stands in a list, for the carriers of a mask: a row of masks for each limit
--     carrier_count    how many numbers the list has
--     Carriers         the list holds it for every mask, and for every limit up to the number of wires
use Rattle.std.specs.Prelude.{ℕ, zero, suc, ◌+◌, ◌*◌, ◌≤◌, ◌<◌, ◌≡◌, Bool, cond, List, get_or}
use Rattle.limits.specs.Limits.{max_masks, max_wires}
use Rattle.records.specs.Layout.{wire_at, wire_count}

abbrev pub carries : List ℕ → ℕ → ℕ → Bool
carries table mask wire = (wire_at table wire).terms.mask mask

abbrev pub highest_below : (ℕ → Bool) → ℕ → ℕ
highest_below test zero = 0
highest_below test (suc limit) = cond (test limit) (suc limit) (highest_below test limit)

abbrev pub highest_at : List ℕ → ℕ → ℕ → ℕ
highest_at carriers mask limit = get_or carriers (max_masks * limit + mask) 0

-- a row of masks for each number of wires, 0 among them
abbrev pub carrier_count : ℕ
carrier_count = max_masks * (max_wires + 1)

unfoldable pub Carriers : List ℕ → List ℕ → Type 0
Carriers table carriers =
    (mask limit : ℕ) → mask < max_masks → limit ≤ wire_count table → highest_at carriers mask limit ≡ highest_below (carries table mask) limit
