-- The list of carriers as the code fills it, a row of masks for each limit.
--     wire_carries, wire_passed     the highest carrier with one wire more: that wire, or what it was before
--     places                        a row for each number of wires, 0 among them
--     Rows                          every place of the rows that are filled holds the highest carrier of its mask below its limit
--     rows_first                    the row of no wires
--     rows_more                     one place more
--     rows_all                      the rows of all wires
use Prim.Native.Nat.{ℕ, suc, ◌+◌, ◌*◌, ◌/◌, ◌%◌, ◌≤◌, ◌<◌}
use native.Mathlib.Nat.{zero-lt-suc, div-eq_of_lt, add-div_right, add-mod_right, mul-add-div, mul-add-mod_self_left, mod-eq_of_lt}
use native.Mathlib.Decide.{dec_lt}
use native.Mathlib.Omega.{arith}
use mathlib.Core.Path.{◌≡◌, sym, ap, ap₂, ◌∙◌}
use mathlib.Core.Bool.{Bool, true, false, cond}
use mathlib.Core.List.{List}
use lib.ListN.{length, get_or, set, replicate, get_or-replicate}
use lib.Seq.{get_or-set_same, get_or-set_other}
use Rattle.limits.specs.Limits.{max_masks, max_wires}
use Rattle.wires.specs.Wires.{Terms}
use Rattle.records.specs.Layout.{wire_count}
use Rattle.carriers.specs.Carriers.{carries, highest_below, Carriers}

-- t are the terms of the wire's record
module _ (t u : Terms) (mask wire before : ℕ) (has : Bool) (tested : has ≡ t.mask mask) (read : t ≡ u) where
  pub wire_carries : has ≡ true → wire + 1 ≡ cond (u.mask mask) (suc wire) before
  wire_carries h =
      let more : wire + 1 ≡ suc wire = omega arith in
      more ∙ ap (λ (b : Bool). cond b (suc wire) before) (sym h ∙ tested ∙ ap (λ (v : Terms). v.mask mask) read)

  pub wire_passed : has ≡ false → before ≡ cond (u.mask mask) (suc wire) before
  wire_passed h = ap (λ (b : Bool). cond b (suc wire) before) (sym h ∙ tested ∙ ap (λ (v : Terms). v.mask mask) read)

abbrev pub places : ℕ
places = max_masks * (max_wires + 1)

unfoldable pub Rows : List ℕ → List ℕ → ℕ → Type 0
Rows table highest place = (i : ℕ) → i < place + max_masks → get_or highest i 0 ≡ highest_below (carries table (i % max_masks)) (i / max_masks)

pub rows_first : (table : List ℕ) → Rows table (replicate places 0) 0
unfolding Rows
rows_first table i l =
    let none : 0 ≡ i / max_masks = omega arith in
    get_or-replicate places i 0 0 (omega arith) ∙ ap (highest_below (carries table (i % max_masks))) none

pub rows_more : (table highest : List ℕ) (place found : ℕ) → place + max_masks < length highest → Rows table highest place
    → found ≡ cond (carries table (place % max_masks) (place / max_masks)) (suc (place / max_masks)) (get_or highest place 0)
    → Rows table (set highest (place + max_masks) found) (place + 1)
unfolding Rows
rows_more table highest place found inside rows e i l = at (dec_lt i (place + max_masks))
  where
    next : get_or highest place 0 ≡ highest_below (carries table (place % max_masks)) (place / max_masks)
    next = rows place (omega arith)

    wider : (place + max_masks) / max_masks ≡ suc (place / max_masks)
    wider = let more = add-div_right place (zero-lt-suc 63) in omega arith

    here : get_or (set highest (place + max_masks) found) (place + max_masks) 0
        ≡ highest_below (carries table ((place + max_masks) % max_masks)) ((place + max_masks) / max_masks)
    here =
        get_or-set_same highest (place + max_masks) found 0 inside ∙ e
        ∙ ap (cond (carries table (place % max_masks) (place / max_masks)) (suc (place / max_masks))) next
        ∙ sym (ap₂ (λ (m n : ℕ). highest_below (carries table m) n) (add-mod_right place max_masks) wider)

    at : Dec (i < place + max_masks)
        → get_or (set highest (place + max_masks) found) i 0 ≡ highest_below (carries table (i % max_masks)) (i / max_masks)
    at (yes less) = get_or-set_other highest (place + max_masks) i found 0 (λ same. omega arith) ∙ rows i less
    at (no more) =
        let same : i ≡ place + max_masks = omega arith in
        ap (λ (k : ℕ). get_or (set highest (place + max_masks) found) k 0) same ∙ here
        ∙ ap (λ (k : ℕ). highest_below (carries table (k % max_masks)) (k / max_masks)) (sym same)

pub rows_all : (table highest : List ℕ) (place : ℕ) → max_masks * wire_count table ≤ place → Rows table highest place → Carriers table highest
unfolding Rows Carriers
rows_all table highest place all rows mask limit m l =
    rows (max_masks * limit + mask) (omega arith)
    ∙ ap₂ (λ (k n : ℕ). highest_below (carries table k) n) (mul-add-mod_self_left max_masks limit mask ∙ mod-eq_of_lt m) wide
  where
    wide : (max_masks * limit + mask) / max_masks ≡ limit
    wide = let none : mask / max_masks ≡ 0 = div-eq_of_lt m in let sum = mul-add-div (zero-lt-suc 63) limit mask in omega arith
