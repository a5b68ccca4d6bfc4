-- One record leaves a sum, one enters.
--     plus_self            terms that are added twice are gone
--     taken_out, two_sums  a sum over a set is that of a wire of it and of the others, which are the same in the next set
--     sum_exchanged, paid_exchanged     the sum of the next set, and how many of its wires pay, from those of the set before
--     started_inside, started, not_started                  the walk's start
--     next-part, slide_asks, exchange_asks, advanced, new_lowest, less_room     its step
use Prim.Native.Nat.{ℕ, zero, suc, ◌+◌, ◌-◌, ◌≤◌, ◌<◌}
use native.Mathlib.Nat.{add_comm, add_assoc}
use native.Mathlib.Omega.{arith}
use mathlib.Core.Path.{◌≡◌, refl, sym, ◌∙◌, ap, ap₂, subst}
use mathlib.Core.Bool.{Bool, true, false, cond, not, ◌||◌, true≢false}
use mathlib.Core.List.{List, [], ◌∷◌, ◌++◌, map}
use borrow.Author.Tests.{eqb-true}
use lib.Dec.{eqb}
use lib.ListN.{length, get_or, take, drop, length-map, get_or-append}
use lib.Seq.{take_at, length-take-le, get_or-take}
use Rattle.limits.specs.Limits.{max_wires, max_size}
use Rattle.basics.specs.Folds.{fold, one_if}
use Rattle.basics.proofs.Folds.{fold-map}
use Rattle.basics.proofs.Tests.{xor_self}
use Rattle.breaking.proofs.Paying.{at_most}
use Rattle.counts.specs.Counts.{binom}
use Rattle.records.specs.Layout.{wire_at, wire_count, inside, terms_of}
use Rattle.wires.specs.declared.Notion.{Notion}
use Rattle.wires.specs.Wires.{Terms, none, plus, total, SumOfValues, pays, allowed}
use Rattle.wires.proofs.Value.{terms_ext, plus_none, plus_comm, plus_assoc, sum_of-values}
use Rattle.revolving.specs.Order.{set_at, is_set}
use Rattle.revolving.proofs.Rising.{Chosen, is_set-parts}
use Rattle.revolving.proofs.Revolving.{set_at-is-set}
use Rattle.walk.specs.Neighbours.{contains, without, Exchanged, HasNext, next_set}
use Rattle.walk.proofs.Exchanges.{without-none}
use Rattle.walk.proofs.Climbing.{chosen, chosen_away, chosen_has}
use Rattle.walk.specs.Places.{room}
use Rattle.walk.proofs.Sets.{some_wire, next-is-set}
use Rattle.running.specs.declared.Tally.{Tally}
use Rattle.running.specs.Kept.{Kept}
use Rattle.running.proofs.Inside.{is-set-inside, part}

pub plus_self : (t : Terms) → plus t t ≡ none
plus_self t =
    terms_ext (plus t t) none (λ i j. xor_self (t.product i j)) (λ i. xor_self (t.share_a i)) (λ j. xor_self (t.share_b j)) (λ k. xor_self (t.mask k))

-- a wire of a rising list, and the others, in any sum over the wires
module _ {B : Type 0} (op : B → B → B) (e : B) (comm : (x y : B) → op x y ≡ op y x) (assoc : (x y z : B) → op (op x y) z ≡ op x (op y z)) (f : ℕ → B) where
  abbrev over : List ℕ → B
  over s = fold op e f s

  taken_out : (lo n x : ℕ) (s : List ℕ) → Chosen lo n s → contains x s ≡ true → over s ≡ op (f x) (over (without x s))
  taken_out lo n x [] c has = absurd (true≢false (sym has))
  taken_out lo n x (y ∷ s) c has = go (eqb x y) refl has (taken_out (suc y) n x s c.2)
    where
      go : (b : Bool) → eqb x y ≡ b → contains x (y ∷ s) ≡ true → (contains x s ≡ true → over s ≡ op (f x) (over (without x s)))
          → op (f y) (over s) ≡ op (f x) (over (cond (not b) (y ∷ without x s) (without x s)))
      go true p has ih =
          let same : x ≡ y = eqb-true x y p in
          let away : contains x s ≡ false = chosen_away (suc y) n x s (omega arith) c.2 in
          ap₂ (λ (i : ℕ) (l : List ℕ). op (f i) (over l)) (sym same) (sym (without-none x s away))
      go false p has ih =
          let rest : contains x s ≡ true = ap (λ (b : Bool). b || contains x s) (sym p) ∙ has in
          ap (op (f y)) (ih rest)
          ∙ sym (assoc (f y) (f x) (over (without x s)))
          ∙ ap (λ (t : B). op t (over (without x s))) (comm (f y) (f x))
          ∙ assoc (f x) (f y) (over (without x s))

  -- the others are the same in both sets
  two_sums : (n x y : ℕ) (s t : List ℕ) → Chosen 0 n s → Chosen 0 n t → Exchanged s t x y → (others : B) × (over s ≡ op (f x) others) × (over t ≡ op (f y) others)
  two_sums n x y s t c d h = (
    over (without x s),
    taken_out 0 n x s c h.was,
    taken_out 0 n y t d h.come ∙ ap (λ (l : List ℕ). op (f y) (over l)) (sym h.rest),
  )

module _ (table : List ℕ) (n x y : ℕ) (s t : List ℕ) (c : Chosen 0 n s) (d : Chosen 0 n t) (h : Exchanged s t x y) where
  abbrev terms : ℕ → Terms
  terms i = (wire_at table i).terms

  sum_over : (l : List ℕ) → total (map (wire_at table) l) ≡ fold plus none terms l
  sum_over = fold-map plus none (wire_at table) (λ w. w.terms)

  pub sum_exchanged : (u : Terms) → u ≡ total (map (wire_at table) s) → plus (plus u (terms x)) (terms y) ≡ total (map (wire_at table) t)
  sum_exchanged u is =
      let both = two_sums plus none plus_comm plus_assoc terms n x y s t c d h in
      let others = both.0 in
      ap (λ (v : Terms). plus (plus v (terms x)) (terms y)) (is ∙ sum_over s ∙ both.1 ∙ plus_comm (terms x) others)
      ∙ ap (λ (v : Terms). plus v (terms y)) (plus_assoc others (terms x) (terms x) ∙ ap (plus others) (plus_self (terms x)) ∙ plus_none others)
      ∙ plus_comm others (terms y) ∙ sym both.2 ∙ sym (sum_over t)

  module _ (notion : Notion) where
    abbrev paying : ℕ → ℕ
    paying i = one_if (pays notion (wire_at table i))

    paid_over : (l : List ℕ) → allowed notion (map (wire_at table) l) ≡ fold ◌+◌ 0 paying l
    paid_over = fold-map ◌+◌ 0 (wire_at table) (λ w. one_if (pays notion w))

    leaving_paid : paying x ≤ allowed notion (map (wire_at table) s)
    leaving_paid = let both = two_sums ◌+◌ 0 add_comm add_assoc paying n x y s t c d h in omega (arith, paid_over s, both.1)

    pub paid_exchanged : (k m : ℕ) → k ≡ allowed notion (map (wire_at table) s) → m + paying x ≡ k + paying y → m ≡ allowed notion (map (wire_at table) t)
    paid_exchanged k m is moved =
        let both = two_sums ◌+◌ 0 add_comm add_assoc paying n x y s t c d h in
        omega (arith, is, moved, paid_over s, paid_over t, both.1, both.2)

-- ---- the walk's start and its step

module _ (notion : Notion) (table : List ℕ) (n size rank sets : ℕ) (held old : List ℕ) (wires : n ≡ wire_count table) (counted : sets ≡ binom n size)
    (more : rank < sets) (unranked : held ≡ set_at n size rank ++ drop size old) where
  is-set : is_set n size (set_at n size rank) ≡ true
  is-set = set_at-is-set n size rank (omega (arith, counted, more))

  started_set : take size held ≡ set_at n size rank
  started_set = ap (take size) unranked ∙ take_at (set_at n size rank) (drop size old) size (is_set-parts n size (set_at n size rank) is-set).0

  pub started_inside : inside table (take (size - 0) held) ≡ true
  started_inside =
      is-set-inside table size (take (size - 0) held)
      (ap₂ (λ (m : ℕ) (l : List ℕ). is_set m size l) (sym wires) (part size held ∙ started_set) ∙ is-set)

  pub started : (tally : Tally) → terms_of tally.sum ≡ total (map (wire_at table) (take (size - 0) held))
      → SumOfValues (terms_of tally.sum) (map (wire_at table) (take (size - 0) held))
      → tally.paid ≡ allowed notion (map (wire_at table) (take (size - 0) held))
      → rank < binom n size → (take size held ≡ set_at n size rank) × Kept notion table (take size held) tally
  started tally e v p less =
      (started_set, subst (λ (l : List ℕ). Kept notion table l tally) (part size held) (record { terms = e; values = v; payers = p }))

pub not_started : {A : Type 0} (n k rank count : ℕ) → count ≡ binom n k → count ≤ rank → rank < binom n k → A
not_started n k rank count e h less = let z : ⊥ = omega arith in absurd z

pub next-part : (n size : ℕ) (probes : List ℕ) → HasNext n (take size probes) → HasNext n (take (size - 0) probes)
next-part n size probes next = subst (HasNext n) (sym (part size probes)) next

take_short : (size : ℕ) (l : List ℕ) → length (take size l) ≤ size
take_short zero l = omega (arith, ap length (none l))
  where
    none : (l : List ℕ) → take 0 l ≡ []
    none [] = refl
    none (x ∷ l) = refl
take_short (suc size) [] = omega arith
take_short (suc size) (x ∷ l) = omega (arith, take_short size l)

-- the part has the buffer's lowest wire
pub slide_asks : (n size : ℕ) (probes : List ℕ) (lowest : ℕ) → n ≤ max_wires → HasNext n (take size probes) → lowest ≡ get_or probes 0 0
    → 0 < room n (take size probes)
    → (n ≤ max_wires) × HasNext n (take (size - 0) probes) × (lowest ≡ get_or (take (size - 0) probes) 0 0) × (0 < room n (take (size - 0) probes))
slide_asks n size probes lowest wires next is more =
    let some : 0 < size - 0 = omega (arith, some_wire n (take size probes) next, take_short size probes) in (
      wires,
      next-part n size probes next,
      is ∙ sym (get_or-take (size - 0) probes 0 0 some),
      subst (λ (l : List ℕ). 0 < room n l) (sym (part size probes)) more,
    )

-- what the step of a part of the buffer came to: the wires x and y left and entered, and t is the set
module _ (n size : ℕ) (probes t : List ℕ) (x y : ℕ) (next : HasNext n (take size probes)) (moved : t ≡ next_set n (take (size - 0) probes))
    (exchange : Exchanged (take (size - 0) probes) t x y) where
  abbrev s : List ℕ
  s = take size probes

  moved_to : t ≡ next_set n s
  moved_to = subst (λ (l : List ℕ). t ≡ next_set n l) (part size probes) moved

  exchange_of : Exchanged s t x y
  exchange_of = subst (λ (l : List ℕ). Exchanged l t x y) (part size probes) exchange

  chosen_next : Chosen 0 n t
  chosen_next = (is_set-parts n (length s) t (ap (is_set n (length s)) moved_to ∙ next-is-set n s next)).1

  front_is : (rest : List ℕ) → size ≤ length probes → take size (t ++ rest) ≡ t
  front_is rest room =
      let long : length t ≡ size = ap length moved_to ∙ (is_set-parts n (length s) (next_set n s) (next-is-set n s next)).0 ∙ length-take-le size probes room in
      take_at t rest size long

  pub new_lowest : (rest : List ℕ) → y ≡ get_or t 0 0 → y ≡ get_or (t ++ rest) 0 0
  new_lowest rest e = e ∙ sym (get_or-append t rest 0 0 (some_in t y exchange_of.come))
    where
      some_in : (l : List ℕ) (z : ℕ) → contains z l ≡ true → 0 < length l
      some_in [] z has = absurd (true≢false (sym has))
      some_in (w ∷ l) z has = omega arith

  pub less_room : (rest : List ℕ) → size ≤ length probes → room n t + 1 ≡ room n (take (size - 0) probes) → room n (take size (t ++ rest)) + 1 ≡ room n s
  less_room rest fits e = ap (λ (l : List ℕ). room n l + 1) (front_is rest fits) ∙ e ∙ ap (room n) (part size probes)

  module _ (notion : Notion) (table : List ℕ) (tally : Tally) (wires : n ≡ wire_count table) (small : size ≤ max_size) (kept : Kept notion table s tally) where
    -- what an exchange asks
    pub exchange_asks : (x < wire_count table) × (y < wire_count table) × (one_if (pays notion (wire_at table x)) ≤ tally.paid) × (tally.paid ≤ max_size)
    exchange_asks = (
      subst (λ (m : ℕ). x < m) wires (chosen_has 0 n x s (chosen n s next) exchange_of.was),
      subst (λ (m : ℕ). y < m) wires (chosen_has 0 n y t chosen_next exchange_of.come),
      omega (arith, kept.payers, leaving_paid table n x y s t (chosen n s next) chosen_next exchange_of notion),
      omega (arith, kept.payers, few, small, take_short size probes),
    )
      where
        few : allowed notion (map (wire_at table) s) ≤ length s
        few = omega (arith, at_most notion (map (wire_at table) s), length-map s (wire_at table))

    pub advanced : (rest : List ℕ) (now : Tally) → size ≤ length probes
        → terms_of now.sum ≡ plus (plus (terms_of tally.sum) (wire_at table x).terms) (wire_at table y).terms
        → now.paid + one_if (pays notion (wire_at table x)) ≡ tally.paid + one_if (pays notion (wire_at table y))
        → (take size (t ++ rest) ≡ next_set n s) × Kept notion table (take size (t ++ rest)) now
    advanced rest now fits sum paid =
        let front = front_is rest fits in
        let all = sum ∙ sum_exchanged table n x y s t (chosen n s next) chosen_next exchange_of (terms_of tally.sum) kept.terms in (
          front ∙ moved_to,
          subst (λ (l : List ℕ). Kept notion table l now) (sym front)
              (record {
                terms = all;
                values = sum_of-values (terms_of now.sum) (map (wire_at table) t) all;
                payers = paid_exchanged table n x y s t (chosen n s next) chosen_next exchange_of notion tally.paid now.paid kept.payers paid;
              }),
        )
