-- The step of the lowest wire in the code's own terms.
--     odd_way, way_next        the direction at the lowest place, and at the next
--     limit-here, limit-none   what a wire stays below
--     room_odd, room_even, room-read, more_room, below-limit     how far the lowest wire can move
--     slid_up, slid_down, no_room          it moves, or can not
use Prim.Native.Nat.{ℕ, zero, suc, ◌+◌, ◌-◌, ◌%◌, ◌≤◌, ◌<◌}
use native.Mathlib.Nat.{not-suc-le-zero}
use native.Mathlib.Numerals.{add-one}
use native.Mathlib.Omega.{arith}
use mathlib.Core.Path.{◌≡◌, refl, sym, ◌∙◌, ap, subst}
use mathlib.Core.Bool.{Bool, true, false, cond, not, true≢false}
use mathlib.Core.List.{List, [], ◌∷◌}
use borrow.Author.Tests.{eq-eqb, ne_eqb, eqb-true}
use lib.Dec.{eqb}
use lib.ListN.{length, get_or, take, drop, set, length-set, drop_of_length-le}
use lib.Seq.{drop-cons, get_or-set_same, drop-set-lt}
use Rattle.basics.specs.Folds.{up_to}
use Rattle.revolving.specs.Order.{is_set}
use Rattle.revolving.proofs.Rising.{is_set-parts}
use Rattle.walk.specs.Neighbours.{Exchanged, HasNext, next_set}
use Rattle.walk.specs.Places.{is_odd, head, limit, room, Blocked}
use Rattle.walk.proofs.Climbing.{turns, Stepped, chosen, head-above, rise_list, fall_list}

-- ---- directions

odd_next : (m : ℕ) → not (is_odd (suc m)) ≡ is_odd m
odd_next m = go (eqb (m % 2) 1) refl
  where
    go : (b : Bool) → is_odd m ≡ b → not (is_odd (suc m)) ≡ b
    go true e = let odd : m % 2 ≡ 1 = eqb-true (m % 2) 1 e in ap not (ne_eqb (suc m % 2) 1 (omega arith))
    go false e = ap not (eq-eqb (suc m % 2) 1 (omega (arith, even)))
      where
        even : m % 2 ≡ 0
        even = other (m % 2) e (omega arith)
          where
            other : (r : ℕ) → eqb r 1 ≡ false → r < 2 → r ≡ 0
            other zero e h = refl
            other (suc zero) e h = absurd (true≢false e)
            other (suc (suc r)) e h = let z : ⊥ = omega arith in absurd z

-- the highest wire's direction is to the next set
pub odd_way : (m : ℕ) → turns (is_odd (suc m)) m ≡ true
odd_way zero = refl
odd_way (suc m) = ap (λ (d : Bool). turns d m) (odd_next (suc m)) ∙ odd_way m

pub way_next : (d : Bool) (size j : ℕ) → j + 1 < size → turns d (size - (j + 1)) ≡ true → turns (not d) (size - (j + 1 + 1)) ≡ true
way_next d size j h e = let more : suc (size - (j + 1 + 1)) ≡ size - (j + 1) = omega arith in ap (turns d) more ∙ e

-- ---- what a wire stays below

pub limit-here : (n : ℕ) (s : List ℕ) (i : ℕ) → i < length s → get_or s i 0 ≡ limit n s i
limit-here n s i h = sym (ap (head n) (drop-cons s i 0 h))

pub limit-none : (n : ℕ) (s : List ℕ) (i : ℕ) → length s ≤ i → n ≡ limit n s i
limit-none n s i h = sym (ap (head n) (drop_of_length-le s h))

-- ---- the lowest wire

pub room_odd : (n : ℕ) (s : List ℕ) → is_odd (length s) ≡ true → room n s ≡ limit n s 1 - 1 - get_or s 0 0
unfolding room
room_odd n s e = ap (λ (b : Bool). cond b (limit n s 1 - 1 - get_or s 0 0) (get_or s 0 0)) e

pub room_even : (n : ℕ) (s : List ℕ) → is_odd (length s) ≡ false → room n s ≡ get_or s 0 0
unfolding room
room_even n s e = ap (λ (b : Bool). cond b (limit n s 1 - 1 - get_or s 0 0) (get_or s 0 0)) e

pub room-read : (n : ℕ) (s : List ℕ) (m : ℕ) → is_odd (length s) ≡ true → m ≡ limit n s (0 + 1) → m - 1 - get_or s 0 0 ≡ room n s
room-read n s m e is = ap (λ (k : ℕ). k - 1 - get_or s 0 0) is ∙ sym (room_odd n s e)

pub more_room : (n : ℕ) (s : List ℕ) (m : ℕ) → m ≡ room n s → 0 < m → 0 < room n s
more_room n s m is more = omega arith

-- the lowest wire is below the next
pub below-limit : (n : ℕ) (s : List ℕ) → 0 < length s → is_set n (length s) s ≡ true → get_or s 0 0 < limit n s 1
below-limit n [] h e = absurd (not-suc-le-zero h)
below-limit n (x ∷ l) h e =
    let c = (is_set-parts n (length (x ∷ l)) (x ∷ l) e).1 in
    subst (λ (r : List ℕ). x < head n r) (sym (drop-none l)) (head-above (suc x) n l c.1 c.2)
  where
    drop-none : (l : List ℕ) → drop 0 l ≡ l
    drop-none [] = refl
    drop-none (y ∷ l) = refl

module _ (n : ℕ) (s : List ℕ) (next : HasNext n s) (some : 0 < length s) where
  abbrev lowest : ℕ
  lowest = get_or s 0 0

  abbrev others : List ℕ
  others = drop 1 s

  whole : s ≡ lowest ∷ others
  whole = go s some
    where
      go : (s : List ℕ) → 0 < length s → s ≡ get_or s 0 0 ∷ drop 1 s
      go [] h = absurd (not-suc-le-zero h)
      go (x ∷ []) h = refl
      go (x ∷ y ∷ l) h = refl

  at_top : (d : Bool) → is_odd (length s) ≡ d → turns d (length others) ≡ true
  at_top d e =
      let odd : d ≡ is_odd (suc (length others)) = sym e ∙ ap (λ (l : List ℕ). is_odd (length l)) whole in
      ap (λ (b : Bool). turns b (length others)) odd ∙ odd_way (length others)

  has-next : HasNext n (lowest ∷ others)
  has-next = subst (HasNext n) whole next

  rises_by_one : is_odd (length s) ≡ true → lowest + 1 < limit n s 1 → Stepped n s (set s 0 (lowest + 1)) lowest (lowest + 1)
  unfolding up_to
  rises_by_one odd inside =
      subst (λ (l : List ℕ). Stepped n l (set l 0 (lowest + 1)) lowest (lowest + 1)) (sym whole)
      (subst (λ (y : ℕ). Stepped n (lowest ∷ others) (y ∷ others) lowest y) (sym (add-one lowest))
      (rise_list n 0 lowest others has-next (omega (arith, inside)) (at_top true odd)))

  falls_by_one : is_odd (length s) ≡ false → 0 < lowest → Stepped n s (set s 0 (lowest - 1)) lowest (lowest - 1)
  unfolding up_to
  falls_by_one even positive =
      subst (λ (l : List ℕ). Stepped n l (set l 0 (lowest - 1)) lowest (lowest - 1)) (sym whole)
      (subst (λ (y : ℕ). Stepped n (y ∷ others) ((lowest - 1) ∷ others) y (lowest - 1)) (sym one)
      (fall_list n 0 (lowest - 1) others (subst (λ (y : ℕ). HasNext n (y ∷ others)) one has-next) (omega arith) (at_top false even)))
    where
      one : lowest ≡ suc (lowest - 1)
      one = omega (arith, positive)

  -- after a step of the lowest wire the others are as they were
  module _ (v : ℕ) where
    lowest_is : v ≡ get_or (set s 0 v) 0 0
    lowest_is = sym (get_or-set_same s 0 v 0 some)

    limit_is : limit n (set s 0 v) 1 ≡ limit n s 1
    limit_is = ap (head n) (drop-set-lt 1 s 0 v (omega arith))

    odd_is : is_odd (length (set s 0 v)) ≡ is_odd (length s)
    odd_is = ap is_odd (length-set s 0 v)

  pub slid_up : is_odd (length s) ≡ true → (x : ℕ) → x ≡ get_or s 0 0 → 0 < room n s → (set s 0 (x + 1) ≡ next_set n s)
      × (Exchanged s (set s 0 (x + 1)) x (x + 1) × ((x + 1 ≡ get_or (set s 0 (x + 1)) 0 0) × (room n (set s 0 (x + 1)) + 1 ≡ room n s)))
  slid_up odd x same more =
      let here = room_odd n s odd in
      let moved = subst (λ (i : ℕ). Stepped n s (set s 0 (i + 1)) i (i + 1)) (sym same) (rises_by_one odd (omega (arith, here, more))) in (
        moved.next,
        (moved.exchanged, (lowest_is (x + 1), omega (arith, here, more, same, room_odd n (set s 0 (x + 1)) (odd_is (x + 1) ∙ odd), limit_is (x + 1), lowest_is (x + 1)))),
      )

  pub slid_down : is_odd (length s) ≡ false → (x : ℕ) → x ≡ get_or s 0 0 → 0 < room n s → (set s 0 (x - 1) ≡ next_set n s)
      × (Exchanged s (set s 0 (x - 1)) x (x - 1) × ((x - 1 ≡ get_or (set s 0 (x - 1)) 0 0) × (room n (set s 0 (x - 1)) + 1 ≡ room n s)))
  slid_down even x same more =
      let here = room_even n s even in
      let moved = subst (λ (i : ℕ). Stepped n s (set s 0 (i - 1)) i (i - 1)) (sym same) (falls_by_one even (omega (arith, here, more))) in (
        moved.next,
        (moved.exchanged, (lowest_is (x - 1), omega (arith, here, more, same, room_even n (set s 0 (x - 1)) (odd_is (x - 1) ∙ even), lowest_is (x - 1)))),
      )

  -- no step of the lowest wire is left
  pub no_room : (m : ℕ) → m ≡ room n s → m ≤ 0 → Blocked (is_odd (length s)) n s 0
  unfolding Blocked up_to
  no_room m is none = go (is_odd (length s)) refl
    where
      high : is_odd (length s) ≡ true → Blocked true n s 0
      high odd =
          let c = chosen n (lowest ∷ others) has-next in
          let above : suc lowest ≤ limit n s 1 = head-above (suc lowest) n others c.1 c.2 in
          (lowest, omega (arith, room_odd n s odd, is, none, above), ap (take 1) whole)

      low : is_odd (length s) ≡ false → Blocked false n s 0
      low even =
          let nil : lowest ≡ 0 = omega (arith, room_even n s even, is, none) in
          ap (take 1) whole ∙ ap {B = List ℕ} (λ y. y ∷ []) nil

      go : (d : Bool) → is_odd (length s) ≡ d → Blocked d n s 0
      go true e = high e
      go false e = low e
