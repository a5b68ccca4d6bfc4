-- Passing over sets while the lowest wire alone moves, over plain numbers and lists.
--     steps_ask                        what the count of a run's steps asks
--     Passing                          where a run stands
--     passing_start, passing_next      at its start, and after a turn
--     slide_may                        what the slide asks
--     passed_over                      the run's result
use Prim.Native.Nat.{ℕ, zero, suc, ◌+◌, ◌-◌, ◌≤◌, ◌<◌}
use native.Mathlib.Nat.{le_refl}
use native.Mathlib.Omega.{arith}
use mathlib.Core.Path.{◌≡◌, refl, sym, ◌∙◌, ap, ap₂}
use mathlib.Core.Bool.{Bool, true, false}
use mathlib.Core.List.{List}
use lib.ListN.{length, get_or, take}
use Rattle.limits.specs.Limits.{max_shares, max_masks}
use Rattle.wires.specs.declared.Notion.{Notion}
use Rattle.wires.specs.Wires.{sum_breaks}
use Rattle.records.specs.Layout.{terms_of}
use Rattle.breaking.specs.Breaking.{is_breaking}
use Rattle.counts.specs.Counts.{binom}
use Rattle.revolving.specs.Order.{set_at, is_set}
use Rattle.revolving.proofs.Rising.{is_set-parts}
use Rattle.revolving.proofs.Revolving.{set_at-is-set}
use Rattle.walk.specs.Neighbours.{HasNext, next_set}
use Rattle.walk.specs.Places.{room}
use Rattle.running.specs.declared.Tally.{Tally}
use Rattle.running.specs.Kept.{Kept, Stands}
use Rattle.running.proofs.Inside.{part}
use Rattle.running.proofs.Telling.{looked, step_asks, held_next}
use Rattle.runs.proofs.Clean.{Clean, clean-start, clean-next, clean-told}

-- what the count of a run's steps asks of the part of the buffer
pub steps_ask : (n k rank : ℕ) (held : List ℕ) → take k held ≡ set_at n k rank → rank < binom n k → (k ≡ 0 → ⊥)
    → (0 < length (take (k - 0) held)) × (is_set n (length (take (k - 0) held)) (take (k - 0) held) ≡ true)
steps_ask n k rank held here less some =
    let front : take (k - 0) held ≡ set_at n k rank = part k held ∙ here in
    let set = set_at-is-set n k rank less in
    let long : length (take (k - 0) held) ≡ k = ap length front ∙ (is_set-parts n k (set_at n k rank) set).0 in
    (omega (arith, long, zero-or_more k some), ap₂ (λ (m : ℕ) (l : List ℕ). is_set n m l) long front ∙ set)
  where
    zero-or_more : (k : ℕ) → (k ≡ 0 → ⊥) → 0 < k
    zero-or_more zero f = absurd (f refl)
    zero-or_more (suc k) f = omega arith

pub record Passing (notion : Notion) (table : List ℕ) (n size from to last : ℕ) (probes : List ℕ) (rank lowest : ℕ) (tally : Tally) : Type 0 where
  pub low : from ≤ rank
  pub inside : rank < to
  pub held : Stands notion table n size rank probes tally
  pub lowest_is : lowest ≡ get_or probes 0 0
  pub room_left : last ≤ rank + room n (take size probes)
  pub clean : Clean (is_breaking notion table max_shares max_masks) n size from rank

pub passing_start : (notion : Notion) (table : List ℕ) (n size from to m steps : ℕ) (probes : List ℕ) (tally : Tally) → from < to
    → Stands notion table n size from probes tally → m ≤ steps → steps ≡ room n (take (size - 0) probes)
    → Passing notion table n size from to (from + m) probes from (get_or probes 0 0) tally
passing_start notion table n size from to m steps probes tally less stands few is = record {
  low = le_refl from;
  inside = less;
  held = stands;
  lowest_is = refl;
  room_left = omega (arith, few, is, ap (room n) (part size probes));
  clean = clean-start (is_breaking notion table max_shares max_masks) n size from;
}

module _ (notion : Notion) (table : List ℕ) (n size from to last : ℕ) (probes : List ℕ) (rank lowest : ℕ) (tally : Tally)
    (p : Passing notion table n size from to last probes rank lowest tally) (less : rank < last) (inside : last < to) (counted : to ≤ binom n size) where
  more : rank + 1 < binom n size
  more = omega (arith, less, inside, counted)

  pub slide_may : (HasNext n (take size probes) × Kept notion table (take size probes) tally) × ((lowest ≡ get_or probes 0 0) × (0 < room n (take size probes)))
  slide_may = (step_asks notion table n size rank probes tally p.held more, (p.lowest_is, omega (arith, less, p.room_left)))

  pub passing_next : (r : Bool) → r ≡ sum_breaks max_shares max_masks tally.paid (terms_of tally.sum) → r ≡ false
      → (after : List ℕ) (wire : ℕ) (u : Tally) → take size after ≡ next_set n (take size probes) → Kept notion table (take size after) u → wire ≡ get_or after 0 0
      → room n (take size after) + 1 ≡ room n (take size probes) → Passing notion table n size from to last after (rank + 1) wire u
  passing_next r tested fails after wire u moved kept is room-less = record {
    low = omega (arith, p.low);
    inside = omega (arith, less, inside);
    held = held_next notion table n size rank probes tally p.held more after u moved kept;
    lowest_is = is;
    room_left = omega (arith, p.room_left, room-less);
    clean = clean-next (is_breaking notion table max_shares max_masks) n size from rank p.clean
        (sym (looked notion table n size rank probes tally p.held r tested) ∙ fails);
  }

pub passed_over : (notion : Notion) (table : List ℕ) (n size from to last : ℕ) (probes : List ℕ) (rank lowest : ℕ) (tally : Tally)
    → Passing notion table n size from to last probes rank lowest tally
    → ((from ≤ rank) × (rank < to))
    × (Stands notion table n size rank probes tally × ((i : ℕ) → from ≤ i → i < rank → is_breaking notion table max_shares max_masks (set_at n size i) ≡ false))
passed_over notion table n size from to last probes rank lowest tally p =
    ((p.low, p.inside), (p.held, clean-told (is_breaking notion table max_shares max_masks) n size from rank p.clean))
