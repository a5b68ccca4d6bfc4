-- Neighbours in the published order, for every number of wires and every size.
--     first-set, last_set        the first set of a size, and the last
--     before, after, leaving     the two sets at a seam of the order, where the highest wire changes, and the wire that leaves there
--     seam, seam_exchanged       they are neighbours, and one exchange apart
--     neighbours                 each next set has lost just one wire and gained just one
use Prim.Native.Nat.{ℕ, zero, suc, ◌+◌, ◌-◌, ◌≤◌, ◌<◌}
use native.Mathlib.Nat.{not-suc-le-zero}
use native.Mathlib.Decide.{dec_lt}
use native.Mathlib.Omega.{arith}
use mathlib.Core.Path.{◌≡◌, sym, ◌∙◌, ap, subst}
use mathlib.Core.Bool.{Bool, false, ◌||◌}
use mathlib.Core.List.{List, [], ◌∷◌, ◌++◌, append_assoc}
use borrow.Author.Tests.{ne_eqb}
use Rattle.basics.specs.Folds.{up_to}
use Rattle.basics.proofs.Folds.{up_to-last}
use Rattle.counts.specs.Counts.{binom}
use Rattle.counts.proofs.Binomial.{binom-zero, binom-none, binom-suc, binom_wider, binom-above}
use Rattle.revolving.specs.Order.{set_at}
use Rattle.revolving.proofs.Revolving.{set_at-none, set_at_wider, set_at-step}
use Rattle.walk.specs.Neighbours.{contains, Exchanged}
use Rattle.walk.proofs.Exchanges.{not-below, turned, beside, below, alone, over}

binom_own : (k : ℕ) → binom k k ≡ 1
binom_own zero = binom-zero 0
binom_own (suc k) = omega (arith, binom-suc k k, binom-above k (suc k) (omega arith), binom_own k)

own_set : (k : ℕ) → set_at k k 0 ≡ up_to k
unfolding up_to
own_set zero = set_at-none 0
own_set (suc k) =
    set_at-step (suc k) k k 0 0 (omega arith) (omega (arith, binom_own k)) (omega (arith, binom_own (suc k)))
    ∙ ap (λ (s : List ℕ). s ++ (k ∷ [])) (own_set k) ∙ sym (up_to-last k)

pub first-set : (n k : ℕ) → k ≤ n → (0 < binom n k) × (set_at n k 0 ≡ up_to k)
first-set n k h =
    (omega (arith, binom_own k, binom_wider k n k h), set_at_wider k n k 0 h (omega (arith, binom_own k)) ∙ own_set k)

-- the highest wire x, and below it the first wires
abbrev pub before : ℕ → ℕ → List ℕ
before k x = up_to k ++ (x ∷ [])

pub last_set : (n k x r : ℕ) → k ≤ x → x < n → suc r ≡ binom (suc x) (suc k) → set_at n (suc k) r ≡ before k x
last_set n k x r h inside e =
    set_at-step n k x 0 r inside (first-set x k h).0 (omega arith) ∙ ap (λ (s : List ℕ). s ++ (x ∷ [])) (first-set x k h).1

abbrev pub after : ℕ → ℕ → List ℕ
after zero x = suc x ∷ []
after (suc j) x = up_to j ++ (x ∷ suc x ∷ [])

abbrev pub leaving : ℕ → ℕ → ℕ
leaving zero x = x
leaving (suc j) x = j

-- of the sets with the highest wire x the last, and of those with the highest wire x + 1 the first
pub seam : (m k x r : ℕ) → k ≤ x → suc x < m → suc r ≡ binom (suc x) (suc k) → (set_at m (suc k) r ≡ before k x) × (set_at m (suc k) (suc r) ≡ after k x)
seam m k x r h inside e = (last_set m k x r h (omega arith) e, there k h e)
  where
    there : (k : ℕ) → k ≤ x → suc r ≡ binom (suc x) (suc k) → set_at m (suc k) (suc r) ≡ after k x
    there zero h e =
        set_at-step m 0 (suc x) 0 (suc r) inside (omega (arith, binom-zero (suc x))) (omega (arith, binom-suc (suc x) 0, binom-zero (suc x)))
        ∙ ap (λ (s : List ℕ). s ++ (suc x ∷ [])) (set_at-none (suc x))
    there (suc j) h e =
        let q = binom (suc x) (suc j) - 1 in
        let some : 0 < binom (suc x) (suc j) = (first-set (suc x) (suc j) (omega arith)).0 in
        set_at-step m (suc j) (suc x) q (suc r) inside (omega arith) (omega (arith, binom-suc (suc x) (suc j)))
        ∙ ap (λ (s : List ℕ). s ++ (suc x ∷ [])) (last_set (suc x) j x q (omega arith) (omega arith) (omega arith))
        ∙ append_assoc (up_to j) (x ∷ []) (suc x ∷ [])

pub seam_exchanged : (k x : ℕ) → k ≤ x → Exchanged (before k x) (after k x) (leaving k x) (suc x)
unfolding up_to
seam_exchanged zero x h = alone x (suc x) (omega arith)
seam_exchanged (suc j) x h =
    subst (λ (s : List ℕ). Exchanged s (after (suc j) x) j (suc x))
    (sym (ap (λ (s : List ℕ). s ++ (x ∷ [])) (up_to-last j) ∙ append_assoc (up_to j) (j ∷ []) (x ∷ [])))
    (below (over j x (omega arith)) (up_to j) (not-below j j (omega arith)) (not-below j (suc x) (omega arith)))

pub record Neighbours (n : ℕ) (s t : List ℕ) : Type 0 where
  pub leaves : ℕ
  pub enters : ℕ
  pub leaves_inside : leaves < n
  pub enters_inside : enters < n
  pub exchanged : Exchanged s t leaves enters

wider : {n : ℕ} {s t : List ℕ} → Neighbours n s t → Neighbours (suc n) s t
wider h = record {
  leaves = h.leaves;
  enters = h.enters;
  leaves_inside = omega (arith, h.leaves_inside);
  enters_inside = omega (arith, h.enters_inside);
  exchanged = h.exchanged;
}

-- backwards, with wire n in both
with_highest : {n : ℕ} {s t : List ℕ} → Neighbours n s t → Neighbours (suc n) (t ++ (n ∷ [])) (s ++ (n ∷ []))
with_highest {n = n} h =
    let away : (x : ℕ) → x < n → contains x (n ∷ []) ≡ false = λ x k. ap (λ (b : Bool). b || false) (ne_eqb x n (omega arith)) in
    record {
      leaves = h.enters;
      enters = h.leaves;
      leaves_inside = omega (arith, h.enters_inside);
      enters_inside = omega (arith, h.leaves_inside);
      exchanged = beside (turned h.exchanged) (n ∷ []) (away h.enters h.enters_inside) (away h.leaves h.leaves_inside);
    }

-- along the definition of the order: inside the first half, at the seam, inside the second half
pub neighbours : (n k r : ℕ) → suc r < binom n k → Neighbours n (set_at n k r) (set_at n k (suc r))
neighbours n zero r h = let z : ⊥ = omega (arith, binom-zero n) in absurd z
neighbours zero (suc k) r h = let z : ⊥ = omega (arith, binom-none k) in absurd z
neighbours (suc n) (suc k) r h = go (dec_lt (suc r) half) (dec_lt half (suc r)) (neighbours n (suc k) r) (neighbours n k)
  where
    half : ℕ
    half = binom n (suc k)

    Goal : Type 0
    Goal = Neighbours (suc n) (set_at (suc n) (suc k) r) (set_at (suc n) (suc k) (suc r))

    both : binom (suc n) (suc k) ≡ half + binom n k
    both = binom-suc n k

    at_seam : (n : ℕ) → suc r ≡ binom n (suc k) → k < n → Neighbours (suc n) (set_at (suc n) (suc k) r) (set_at (suc n) (suc k) (suc r))
    at_seam zero e p = absurd (not-suc-le-zero p)
    at_seam (suc x) e p =
        let sets = seam (suc (suc x)) k x r (omega arith) (omega arith) e in
        record {
          leaves = leaving k x;
          enters = suc x;
          leaves_inside = low k (omega arith);
          enters_inside = omega arith;
          exchanged = subst (λ (s : List ℕ). Exchanged s (set_at (suc (suc x)) (suc k) (suc r)) (leaving k x) (suc x)) (sym sets.0)
              (subst (λ (t : List ℕ). Exchanged (before k x) t (leaving k x) (suc x)) (sym sets.1) (seam_exchanged k x (omega arith)));
        }
      where
        low : (k : ℕ) → k ≤ x → leaving k x < suc (suc x)
        low zero h = omega arith
        low (suc j) h = omega arith

    enough : suc r ≡ half → k < n
    enough e = few (dec_lt k n)
      where
        few : Dec (k < n) → k < n
        few (yes p) = p
        few (no p) = let z : ⊥ = omega (arith, binom-above n (suc k) (omega arith)) in absurd z

    go : Dec (suc r < half) → Dec (half < suc r) → (suc r < half → Neighbours n (set_at n (suc k) r) (set_at n (suc k) (suc r)))
        → ((q : ℕ) → suc q < binom n k → Neighbours n (set_at n k q) (set_at n k (suc q))) → Goal
    go (yes p) d first second =
        let low : r < half = omega arith in
        subst (λ (s : List ℕ). Neighbours (suc n) s (set_at (suc n) (suc k) (suc r))) (sym (set_at_wider n (suc n) (suc k) r (omega arith) low))
        (subst (λ (t : List ℕ). Neighbours (suc n) (set_at n (suc k) r) t) (sym (set_at_wider n (suc n) (suc k) (suc r) (omega arith) p))
        (wider (first p)))
    go (no p) (yes q) first second =
        let i = binom (suc n) (suc k) - suc (suc r) in
        let here : set_at (suc n) (suc k) r ≡ set_at n k (suc i) ++ (n ∷ []) = set_at-step (suc n) k n (suc i) r (omega arith) (omega (arith, both)) (omega arith) in
        let there : set_at (suc n) (suc k) (suc r) ≡ set_at n k i ++ (n ∷ []) = set_at-step (suc n) k n i (suc r) (omega arith) (omega (arith, both)) (omega arith) in
        subst (λ (s : List ℕ). Neighbours (suc n) s (set_at (suc n) (suc k) (suc r))) (sym here)
        (subst (λ (t : List ℕ). Neighbours (suc n) (set_at n k (suc i) ++ (n ∷ [])) t) (sym there)
        (with_highest (second i (omega (arith, both)))))
    go (no p) (no q) first second = let e : suc r ≡ half = omega arith in at_seam n e (enough e)
