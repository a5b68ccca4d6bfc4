-- What the request asks of the order and of the step, in its own words.
--     Lost, Gained          a wire is the only one that a set has lost, that it has gained
--     one_lost_one_gained   for every number of wires and every size: each next set has lost just one wire and gained just one
--     exchanged_by          the two are those of the exchange
--     step_tells            the two that the step tells are these
--     step_changes          they are of the n wires, and every other wire is in both sets or in neither
--     steps_once            a set has one next set, and one pair of wires that leave and enter
use Prim.Native.Nat.{ℕ, ◌+◌, ◌<◌}
use native.Mathlib.Numerals.{add-one}
use mathlib.Core.Path.{◌≡◌, sym, ◌∙◌, ap, subst}
use mathlib.Core.Logic.{◌↔◌}
use mathlib.Core.Bool.{true, false}
use mathlib.Core.List.{List}
use borrow.Author.Tests.{ne_eqb}
use lib.ListN.{length}
use Rattle.counts.specs.Counts.{binom}
use Rattle.revolving.specs.Order.{set_at, is_set}
use Rattle.revolving.proofs.Rising.{is_set-parts}
use Rattle.walk.specs.Neighbours.{contains, Exchanged, next_set}
use Rattle.walk.proofs.Exchanges.{lost, gained, kept, exchanged_once}
use Rattle.walk.proofs.Neighbours.{neighbours}
use Rattle.walk.proofs.Climbing.{chosen, chosen_has}
use Rattle.walk.proofs.Sets.{next-is-set, has-next_at, next_at}

-- the wires of s that t has not are x alone
abbrev pub Lost : List ℕ → List ℕ → ℕ → Type 0
Lost s t x = (z : ℕ) → ((contains z s ≡ true) × (contains z t ≡ false)) ↔ (z ≡ x)

abbrev pub Gained : List ℕ → List ℕ → ℕ → Type 0
Gained s t y = Lost t s y

just_lost : {s t : List ℕ} {x y : ℕ} → Exchanged s t x y → Lost s t x
just_lost {s = s} {t = t} e z = (
  (λ p. lost e z p.0 p.1),
  (λ p. (ap (λ (i : ℕ). contains i s) p ∙ e.was, ap (λ (i : ℕ). contains i t) p ∙ e.gone)),
)

just_gained : {s t : List ℕ} {x y : ℕ} → Exchanged s t x y → Gained s t y
just_gained {s = s} {t = t} e z = (
  (λ p. gained e z p.0 p.1),
  (λ p. (ap (λ (i : ℕ). contains i t) p ∙ e.come, ap (λ (i : ℕ). contains i s) p ∙ e.fresh)),
)

-- the next rank as the law writes it
exchanged_at : (n k r : ℕ) → r + 1 < binom n k → (x : ℕ) × (y : ℕ) × Exchanged (set_at n k r) (set_at n k (r + 1)) x y
exchanged_at n k r h =
    let one = add-one r in
    let both = neighbours n k r (subst (λ (i : ℕ). i < binom n k) one h) in (
      both.leaves,
      both.enters,
      subst (λ (i : ℕ). Exchanged (set_at n k r) (set_at n k i) both.leaves both.enters) (sym one) both.exchanged,
    )

pub one_lost_one_gained : (n k r : ℕ) → r + 1 < binom n k → (x : ℕ) × (y : ℕ) × Lost (set_at n k r) (set_at n k (r + 1)) x × Gained (set_at n k r) (set_at n k (r + 1)) y
one_lost_one_gained n k r h = let both = exchanged_at n k r h in (both.0, both.1, just_lost both.2, just_gained both.2)

-- so what is lost and what is gained are the two of an exchange
pub exchanged_by : (n k r x y : ℕ) → r + 1 < binom n k → Lost (set_at n k r) (set_at n k (r + 1)) x → Gained (set_at n k r) (set_at n k (r + 1)) y
    → Exchanged (set_at n k r) (set_at n k (r + 1)) x y
exchanged_by n k r x y h lost-is gained-is =
    let both = exchanged_at n k r h in
    let e = both.2 in
    let same : both.0 ≡ x = (lost-is both.0).0 (e.was, e.gone) in
    let also : both.1 ≡ y = (gained-is both.1).0 (e.come, e.fresh) in
    subst (λ (i : ℕ). Exchanged (set_at n k r) (set_at n k (r + 1)) i y) same
    (subst (λ (j : ℕ). Exchanged (set_at n k r) (set_at n k (r + 1)) both.0 j) also e)

-- the set at a rank, and what the step promises of it
module _ (n k r : ℕ) (s t : List ℕ) (x y : ℕ) (here : s ≡ set_at n k r) (more : r + 1 < binom n k) (next : t ≡ next_set n s) (e : Exchanged s t x y) where
  pub step_tells : (t ≡ set_at n k (r + 1)) × Lost (set_at n k r) (set_at n k (r + 1)) x × Gained (set_at n k r) (set_at n k (r + 1)) y
  step_tells =
      let there : t ≡ set_at n k (r + 1) = next ∙ next_at n k r s here more in
      let f = subst (λ (l : List ℕ). Exchanged l (set_at n k (r + 1)) x y) here (subst (λ (l : List ℕ). Exchanged s l x y) there e) in
      (there, just_lost f, just_gained f)

  pub step_changes : (x < n) × (y < n) × ((z : ℕ) → (z ≡ x → ⊥) → (z ≡ y → ⊥) → contains z s ≡ contains z t)
  step_changes =
      let ready = has-next_at n k r s here more in
      let after = (is_set-parts n (length s) t (ap (is_set n (length s)) next ∙ next-is-set n s ready)).1 in (
        chosen_has 0 n x s (chosen n s ready) e.was,
        chosen_has 0 n y t after e.come,
        (λ z p q. kept e z (ne_eqb z x p) (ne_eqb z y q)),
      )

pub steps_once : (n : ℕ) (s t u : List ℕ) (x y v w : ℕ) → t ≡ next_set n s → Exchanged s t x y → u ≡ next_set n s → Exchanged s u v w → (t ≡ u) × (v ≡ x) × (w ≡ y)
steps_once n s t u x y v w p e q f =
    let same : t ≡ u = p ∙ sym q in
    let once = exchanged_once e (subst (λ (l : List ℕ). Exchanged s l v w) (sym same) f) in
    (same, once.0, once.1)
