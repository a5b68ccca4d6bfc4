-- The turns of the step above the lowest wire in the code's own terms: the wires of the buffer, by their places.
--     rises, falls             the wire at a place moves
--     high, low                it can not
--     Climbing                 what holds before a turn
--     climbing_start, turn_rises, turn_falls, turn_high, turn_low     the turns
--     never_last               a set with a next one is not blocked at every place
use Prim.Native.Nat.{ℕ, zero, suc, ◌+◌, ◌-◌, ◌≤◌, ◌<◌}
use native.Mathlib.Nat.{not-suc-le-zero}
use native.Mathlib.Numerals.{add-one}
use native.Mathlib.Omega.{arith}
use mathlib.Core.Path.{◌≡◌, refl, sym, ◌∙◌, ap, ap₂, subst}
use mathlib.Core.Bool.{Bool, true, false, not, true≢false}
use mathlib.Core.List.{List, [], ◌∷◌, ◌++◌, append_assoc}
use lib.ListN.{length, get_or, take, drop, set, length-drop}
use lib.Seq.{split_at, take-suc, take-length}
use Rattle.basics.specs.Folds.{up_to}
use Rattle.basics.proofs.Folds.{up_to-last, up_to-length}
use Rattle.counts.specs.Counts.{binom}
use Rattle.revolving.specs.Order.{set_at, rank_of}
use Rattle.revolving.proofs.Rising.{Chosen}
use Rattle.revolving.proofs.Revolving.{rank_unique}
use Rattle.walk.specs.Neighbours.{Exchanged, HasNext, next_set}
use Rattle.walk.specs.Places.{is_odd, head, limit, Blocked}
use Rattle.walk.proofs.Neighbours.{first-set, last_set, before, after}
use Rattle.walk.proofs.Climbing.{turns, Stepped, chosen, chosen_after, above-first, head-above, rise_list, fall_list}
use Rattle.walk.proofs.Sets.{some_wire}
use Rattle.walk.proofs.Sliding.{odd_way, way_next, limit-here, limit-none}

-- a promise of the step on the set that a turn leaves in the buffer
told : {n : ℕ} {s t u : List ℕ} {x y : ℕ} → u ≡ t → Stepped n s t x y → (u ≡ next_set n s) × Exchanged s u x y
told {n = n} {s = s} {x = x} {y = y} e m = (e ∙ m.next, subst (λ (l : List ℕ). Exchanged s l x y) (sym e) m.exchanged)

-- ---- a wire above it

update_two : (p : List ℕ) (a b c d : ℕ) (l : List ℕ) → set (set (p ++ (a ∷ b ∷ l)) (length p) c) (suc (length p)) d ≡ p ++ (c ∷ d ∷ l)
update_two [] a b c d l = refl
update_two (x ∷ p) a b c d l = ap {B = List ℕ} (λ m. x ∷ m) (update_two p a b c d l)

module _ (n : ℕ) (s : List ℕ) (j : ℕ) (next : HasNext n s) (h : j + 1 < length s) where
  abbrev wire : ℕ
  wire = get_or s (j + 1) 0

  abbrev rest : List ℕ
  rest = drop (j + 1 + 1) s

  split : s ≡ take (j + 1) s ++ (wire ∷ rest)
  split = split_at s (j + 1) 0 h ∙ ap (λ (i : ℕ). take (j + 1) s ++ (wire ∷ drop i s)) (sym (add-one (j + 1)))

  rest_way : (d : Bool) → turns d (length s - (j + 1)) ≡ true → turns (not d) (length rest) ≡ true
  rest_way d e = ap (turns (not d)) (length-drop (j + 1 + 1) s) ∙ way_next d (length s) j h e

  -- the wire at place j is y
  module _ (y : ℕ) (front : take (j + 1) s ≡ up_to j ++ (y ∷ [])) where
    known : s ≡ up_to j ++ (y ∷ wire ∷ rest)
    known = split ∙ ap (λ (p : List ℕ). p ++ (wire ∷ rest)) front ∙ append_assoc (up_to j) (y ∷ []) (wire ∷ rest)

    written : (c d : ℕ) → set (set s j c) (j + 1) d ≡ up_to j ++ (c ∷ d ∷ rest)
    written c d =
        ap (λ (l : List ℕ). set (set l j c) (j + 1) d) known
        ∙ ap₂ (λ (i k : ℕ). set (set (up_to j ++ (y ∷ wire ∷ rest)) i c) k d) (sym (up_to-length j)) (add-one j ∙ ap suc (sym (up_to-length j)))
        ∙ update_two (up_to j) y wire c d rest

    wires : (j ≤ y) × (y < wire) × (wire < n) × Chosen (suc wire) n rest
    wires =
        let c = subst (Chosen 0 n) known (chosen n s next) in
        let more = (chosen_after 0 n (up_to j) y (wire ∷ rest) c).2 in
        (above-first n j y (wire ∷ rest) c, more.0, more.1, more.2)

    at_place : get_or s j 0 ≡ y
    at_place = ap (λ (l : List ℕ). get_or l j 0) known ∙ ap (λ (i : ℕ). get_or (up_to j ++ (y ∷ wire ∷ rest)) i 0) (sym (up_to-length j)) ∙ past (up_to j)
      where
        past : (p : List ℕ) → get_or (p ++ (y ∷ wire ∷ rest)) (length p) 0 ≡ y
        past [] = refl
        past (x ∷ p) = past p

    -- one wire more
    more_front : take (j + 1 + 1) s ≡ up_to j ++ (y ∷ wire ∷ [])
    more_front =
        ap (λ (i : ℕ). take i s) (add-one (j + 1)) ∙ take-suc s (j + 1) 0 h ∙ ap (λ (p : List ℕ). p ++ (wire ∷ [])) front
        ∙ append_assoc (up_to j) (y ∷ []) (wire ∷ [])

  first_front : Blocked false n s j → take (j + 1) s ≡ up_to j ++ (j ∷ [])
  unfolding Blocked
  first_front b = b ∙ ap up_to (add-one j) ∙ up_to-last j

  -- the two sets at the seam, with the wires after the place
  after_is : (x : ℕ) → after (suc j) x ++ rest ≡ up_to j ++ (x ∷ suc x ∷ rest)
  after_is x = append_assoc (up_to j) (x ∷ suc x ∷ []) rest

  before-is : (x : ℕ) → before (suc j) x ++ rest ≡ up_to j ++ (j ∷ x ∷ rest)
  before-is x =
      append_assoc (up_to (suc j)) (x ∷ []) rest ∙ ap (λ (p : List ℕ). p ++ (x ∷ rest)) (up_to-last j) ∙ append_assoc (up_to j) (j ∷ []) (x ∷ rest)

  pub rises : Blocked false n s j → turns false (length s - (j + 1)) ≡ true → get_or s (j + 1) 0 + 1 < limit n s (j + 1 + 1)
      → (set (set s j (get_or s (j + 1) 0)) (j + 1) (get_or s (j + 1) 0 + 1) ≡ next_set n s)
      × Exchanged s (set (set s j (get_or s (j + 1) 0)) (j + 1) (get_or s (j + 1) 0 + 1)) j (get_or s (j + 1) 0 + 1)
  rises b way inside =
      let front = first_front b in
      let same : before (suc j) wire ++ rest ≡ s = before-is wire ∙ sym (known j front) in
      let one = add-one wire in
      let moved = rise_list n (suc j) wire rest (subst (HasNext n) (sym same) next) (subst (λ (y : ℕ). y < head n rest) one inside) (rest_way false way) in
      subst (λ (y : ℕ). (set (set s j wire) (j + 1) y ≡ next_set n s) × Exchanged s (set (set s j wire) (j + 1) y) j y) (sym one)
      (told (written j front wire (suc wire) ∙ sym (after_is wire))
      (subst (λ (l : List ℕ). Stepped n l (after (suc j) wire ++ rest) j (suc wire)) same moved))

  pub falls : Blocked true n s j → turns true (length s - (j + 1)) ≡ true → j + 1 < get_or s (j + 1) 0
      → (set (set s j j) (j + 1) (get_or s j 0) ≡ next_set n s) × Exchanged s (set (set s j j) (j + 1) (get_or s j 0)) (get_or s (j + 1) 0) j
  unfolding Blocked
  falls b way high =
      let y = b.0 in
      let front = b.2 in
      let one : wire ≡ suc y = limit-here n s (j + 1) h ∙ b.1 ∙ add-one y in
      let same : after (suc j) y ++ rest ≡ s = after_is y ∙ sym (known y front ∙ ap (λ (x : ℕ). up_to j ++ (y ∷ x ∷ rest)) one) in
      let moved = fall_list n (suc j) y rest (subst (HasNext n) (sym same) next) (omega (arith, high, one)) (rest_way true way) in
      subst (λ (x : ℕ). (set (set s j j) (j + 1) (get_or s j 0) ≡ next_set n s) × Exchanged s (set (set s j j) (j + 1) (get_or s j 0)) x j) (sym one)
      (told (ap (λ (x : ℕ). set (set s j j) (j + 1) x) (at_place y front) ∙ written y front j y ∙ sym (before-is y))
      (subst (λ (l : List ℕ). Stepped n l (before (suc j) y ++ rest) (suc y) j) same moved))

  pub high : Blocked false n s j → limit n s (j + 1 + 1) ≤ get_or s (j + 1) 0 + 1 → Blocked true n s (j + 1)
  unfolding Blocked
  high b out =
      let front = first_front b in
      let w = wires j front in
      let low : suc wire ≤ limit n s (j + 1 + 1) = head-above (suc wire) n rest w.2 w.3 in (
        wire,
        omega arith,
        more_front j front ∙ sym (append_assoc (up_to j) (j ∷ []) (wire ∷ [])) ∙ ap (λ (p : List ℕ). p ++ (wire ∷ [])) (sym (up_to-last j) ∙ ap up_to (sym (add-one j))),
      )

  pub low : Blocked true n s j → get_or s (j + 1) 0 ≤ j + 1 → Blocked false n s (j + 1)
  unfolding Blocked
  low b out =
      let y = b.0 in
      let front = b.2 in
      let w = wires y front in
      let one : wire ≡ j + 1 = omega (arith, w.0, w.1) in
      let two : y ≡ j = omega (arith, w.0, w.1) in
      more_front y front
      ∙ ap₂ (λ (x z : ℕ). up_to j ++ (x ∷ z ∷ [])) two one
      ∙ sym (append_assoc (up_to j) (j ∷ []) ((j + 1) ∷ []))
      ∙ ap (λ (p : List ℕ). p ++ ((j + 1) ∷ [])) (sym (up_to-last j) ∙ ap up_to (sym (add-one j)))
      ∙ sym (up_to-last (j + 1))
      ∙ ap up_to (sym (add-one (j + 1)))

-- ---- the same by the loop's own direction, and from the set at entry

from_entry : (n : ℕ) {s s₀ t : List ℕ} {x y : ℕ} → s ≡ s₀ → (t ≡ next_set n s) × Exchanged s t x y → (t ≡ next_set n s₀) × Exchanged s₀ t x y
from_entry n {t = t} {x = x} {y = y} same p = subst (λ (l : List ℕ). (t ≡ next_set n l) × Exchanged l t x y) same p

-- before each turn
pub record Climbing (n : ℕ) (s₀ s : List ℕ) (d : Bool) (j : ℕ) : Type 0 where
  pub unchanged : s ≡ s₀
  pub next : HasNext n s
  pub inside : j < length s
  pub blocked : Blocked d n s j
  pub way : turns d (length s - (j + 1)) ≡ true

pub climbing_start : (n : ℕ) (s : List ℕ) → HasNext n s → Blocked (is_odd (length s)) n s 0 → Climbing n s s (is_odd (length s)) 0
climbing_start n s next b =
    record { unchanged = refl; next = next; inside = some_wire n s next; blocked = b; way = way (length s) (some_wire n s next) }
  where
    way : (m : ℕ) → 0 < m → turns (is_odd m) (m - (0 + 1)) ≡ true
    way zero h = absurd (not-suc-le-zero h)
    way (suc m) h = let less : suc m - (0 + 1) ≡ m = omega arith in ap (turns (is_odd (suc m))) less ∙ odd_way m

module _ (n : ℕ) (s₀ s : List ℕ) (d : Bool) (j : ℕ) (l : Climbing n s₀ s d j) (h : j + 1 < length s) where
  pub turn_rises : d ≡ false → (m : ℕ) → m ≡ limit n s (j + 1 + 1) → get_or s (j + 1) 0 + 1 < m
      → (set (set s j (get_or s (j + 1) 0)) (j + 1) (get_or s (j + 1) 0 + 1) ≡ next_set n s₀)
      × Exchanged s₀ (set (set s j (get_or s (j + 1) 0)) (j + 1) (get_or s (j + 1) 0 + 1)) j (get_or s (j + 1) 0 + 1)
  turn_rises e m bound inside =
      from_entry n l.unchanged
      (rises n s j l.next h (subst (λ (b : Bool). Blocked b n s j) e l.blocked)
      (subst (λ (b : Bool). turns b (length s - (j + 1)) ≡ true) e l.way) (omega (arith, inside, bound)))

  pub turn_falls : d ≡ true → j + 1 < get_or s (j + 1) 0
      → (set (set s j j) (j + 1) (get_or s j 0) ≡ next_set n s₀) × Exchanged s₀ (set (set s j j) (j + 1) (get_or s j 0)) (get_or s (j + 1) 0) j
  turn_falls e high =
      from_entry n l.unchanged
      (falls n s j l.next h (subst (λ (b : Bool). Blocked b n s j) e l.blocked)
      (subst (λ (b : Bool). turns b (length s - (j + 1)) ≡ true) e l.way) high)

  -- the next turn, in the other direction
  turned : Blocked (not d) n s (j + 1) → Climbing n s₀ s (not d) (j + 1)
  turned b = record { unchanged = l.unchanged; next = l.next; inside = h; blocked = b; way = way_next d (length s) j h l.way }

  pub turn_high : d ≡ false → (m : ℕ) → m ≡ limit n s (j + 1 + 1) → m ≤ get_or s (j + 1) 0 + 1 → Climbing n s₀ s (not d) (j + 1)
  turn_high e m bound out =
      turned (subst (λ (b : Bool). Blocked (not b) n s (j + 1)) (sym e)
      (high n s j l.next h (subst (λ (b : Bool). Blocked b n s j) e l.blocked) (omega (arith, out, bound))))

  pub turn_low : d ≡ true → get_or s (j + 1) 0 ≤ j + 1 → Climbing n s₀ s (not d) (j + 1)
  turn_low e out =
      turned (subst (λ (b : Bool). Blocked (not b) n s (j + 1)) (sym e)
      (low n s j l.next h (subst (λ (b : Bool). Blocked b n s j) e l.blocked) out))

-- a set whose wires are all blocked is the last of its size
pub never_last : (n : ℕ) (s₀ s : List ℕ) (d : Bool) (j : ℕ) → Climbing n s₀ s d j → length s ≤ j + 1 → ⊥
unfolding Blocked
never_last n s₀ s d j l out = go d l.blocked (ap (turns d) (sym none) ∙ l.way)
  where
    inside : j < length s
    inside = l.inside

    next : HasNext n s
    next = l.next

    none : length s - (j + 1) ≡ 0
    none = omega (arith, out)

    size : length s ≡ suc j
    size = omega (arith, inside, out)

    go : (d : Bool) → Blocked d n s j → d ≡ true → ⊥
    go false b e = true≢false (sym e)
    go true b e =
        let y = b.0 in
        let all : s ≡ before j y = sym (take-length s) ∙ ap (λ (i : ℕ). take i s) (size ∙ sym (add-one j)) ∙ b.2 in
        let top : n ≡ suc y = limit-none n s (j + 1) out ∙ b.1 ∙ add-one y in
        let c = subst (Chosen 0 n) all (chosen n s next) in
        let r = binom (suc y) (suc j) - 1 in
        let low = above-first n j y [] c in
        let some : 0 < binom (suc y) (suc j) = (first-set (suc y) (suc j) (omega (arith, low))).0 in
        let last : set_at (suc y) (suc j) r ≡ s = last_set (suc y) j y r low (omega arith) (omega arith) ∙ sym all in
        let rank : rank_of (suc y) s ≡ r = rank_unique (suc y) (suc j) r s (omega arith) last in
        let more : rank_of (suc y) s + 1 < binom (suc y) (suc j) = subst (λ (m : ℕ). rank_of m s + 1 < binom m (suc j)) top (subst (λ (k : ℕ). rank_of n s + 1 < binom n k) size next.later) in
        omega arith
