-- The turns of the loops over the order: the search for the highest wire, set from rank, rank from set.
--     top_start, top_found      the search for the highest wire begins and ends
--     unrank_next, unrank_set, unrank_step, unrank_end     the turns of set from rank
--     Ranked                    r is the rank of the first i wires of s, among the sets out of any number of wires above them
--     wire_inside, ranked-none, ranked-fits, ranked-next, ranked-all     the turns of rank from set
use Prim.Native.Nat.{ℕ, zero, suc, ◌+◌, ◌-◌, ◌≤◌, ◌<◌}
use native.Mathlib.Nat.{not-suc-le-zero}
use native.Mathlib.Numerals.{add-one}
use native.Mathlib.Omega.{arith}
use mathlib.Core.Path.{◌≡◌, sym, ◌∙◌, ap, ap₂, subst}
use mathlib.Core.Bool.{true, ◌&&◌}
use mathlib.Core.List.{List, [], ◌∷◌, ◌++◌, append_assoc}
use lib.ListN.{length, get_or, take, drop, set, length-set}
use lib.Seq.{drop-cons, take-suc, take-length, get_or-set_same, drop-set-lt}
use Rattle.counts.specs.Counts.{binom}
use Rattle.counts.proofs.Binomial.{binom-zero, binom-none, binom-suc, binom_wider}
use Rattle.revolving.specs.Order.{set_at, rank_of, rising, below}
use Rattle.revolving.proofs.Rising.{Chosen, chosen_true, chosen_snoc, chosen_take, rising_chosen}
use Rattle.revolving.proofs.Revolving.{set_at-step, rank_unique, set_at-none}

-- no wires have no sets of one wire or more, so there is a wire below n
pub top_start : (n k r : ℕ) → 0 < k → r < binom n k → (0 < n) × (binom 0 k ≤ r)
top_start n zero r p q = absurd (not-suc-le-zero p)
top_start zero (suc k) r p q = let z : ⊥ = omega (arith, binom-none k) in absurd z
top_start (suc n) (suc k) r p q = (omega arith, omega (arith, binom-none k))

pub top_found : (n k r low high : ℕ) → low < high → high ≤ n → high - low ≤ 1 → binom low k ≤ r → r < binom high k → (low < n) × (binom low k ≤ r) × (r < binom (low + 1) k)
top_found n k r low high a b c p q =
    let e : high ≡ low + 1 = omega arith in
    (omega arith, p, subst (λ (m : ℕ). r < binom m k) e q)

-- what a turn of set from rank works with: `left` wires to go, the highest of them x
module _ (n left r x : ℕ) (some : 0 < left) (inside : x < n) (before : binom x left ≤ r) (after : r < binom (x + 1) left) where
  pub unrank_next : binom (x + 1) left - 1 - r < binom x (left - 1)
  unrank_next = go left some before after
    where
      go : (left : ℕ) → 0 < left → binom x left ≤ r → r < binom (x + 1) left → binom (x + 1) left - 1 - r < binom x (left - 1)
      go zero p a b = absurd (not-suc-le-zero p)
      go (suc k) p a b =
          let s : binom (x + 1) (suc k) ≡ binom x (suc k) + binom x k = ap (λ (m : ℕ). binom m (suc k)) (add-one x) ∙ binom-suc x k in
          let e : suc k - 1 ≡ k = omega arith in
          subst (λ (m : ℕ). binom (x + 1) (suc k) - 1 - r < binom x m) (sym e) (omega arith)

  pub unrank_set : set_at n left r ≡ set_at x (left - 1) (binom (x + 1) left - 1 - r) ++ (x ∷ [])
  unrank_set = go left some after unrank_next
    where
      go : (left : ℕ) → 0 < left → r < binom (x + 1) left → binom (x + 1) left - 1 - r < binom x (left - 1) →
          set_at n left r ≡ set_at x (left - 1) (binom (x + 1) left - 1 - r) ++ (x ∷ [])
      go zero p a b = absurd (not-suc-le-zero p)
      go (suc k) p a b =
          let e : suc k - 1 ≡ k = omega arith in
          let q = binom (x + 1) (suc k) - 1 - r in
          let s : r + suc q ≡ binom (suc x) (suc k) = omega (arith, ap (λ (m : ℕ). binom m (suc k)) (add-one x)) in
          set_at-step n k x q r inside (subst (λ (m : ℕ). q < binom x m) e b) s
          ∙ ap (λ (m : ℕ). set_at x m q ++ (x ∷ [])) (sym e)

-- the set at the rank and what lies past it in the buffer, before and after the highest wire is written
pub unrank_step : (n left r x : ℕ) (out goal : List ℕ) → 0 < left → left ≤ length out → x < n → binom x left ≤ r → r < binom (x + 1) left → goal ≡ set_at n left r ++ drop left out →
    goal ≡ set_at x (left - 1) (binom (x + 1) left - 1 - r) ++ drop (left - 1) (set out (left - 1) x)
unrank_step n left r x out goal some room inside before after so_far =
    let front = set_at x (left - 1) (binom (x + 1) left - 1 - r) in
    let at : left - 1 < length out = omega arith in
    so_far
    ∙ ap (λ (s : List ℕ). s ++ drop left out) (unrank_set n left r x some inside before after)
    ∙ append_assoc front (x ∷ []) (drop left out)
    ∙ ap (λ (s : List ℕ). front ++ s) (sym (written out (left - 1) left x at (omega arith)))
  where
    written : (out : List ℕ) (i j x : ℕ) → i < length out → suc i ≡ j → drop i (set out i x) ≡ x ∷ drop j out
    written out i j x h e =
        drop-cons (set out i x) i 0 (omega (arith, length-set out i x))
        ∙ ap₂ {C = List ℕ} (λ (a : ℕ) (s : List ℕ). a ∷ s) (get_or-set_same out i x 0 h) (drop-set-lt (suc i) out i x (omega arith) ∙ ap (λ (m : ℕ). drop m out) e)

-- once no wire is left the buffer holds the set
pub unrank_end : (n left r : ℕ) (out goal : List ℕ) → left ≤ 0 → r < binom n left → goal ≡ set_at n left r ++ drop left out → out ≡ goal
unrank_end n zero r out goal e b so_far =
    let first : r ≡ 0 = omega (arith, binom-zero n) in
    sym (so_far ∙ ap (λ (q : ℕ). set_at n 0 q ++ out) first ∙ ap (λ (s : List ℕ). s ++ out) (set_at-none n))
unrank_end n (suc left) r out goal e b so_far = absurd (not-suc-le-zero e)

unfoldable pub Ranked : List ℕ → ℕ → ℕ → Type 0
Ranked s i r = (m : ℕ) → Chosen 0 m (take i s) → (r < binom m i) × (set_at m i r ≡ take i s)

pub ranked-none : (s : List ℕ) → Ranked s 0 0
unfolding Ranked
ranked-none s m c = (omega (arith, binom-zero m), set_at-none m)

-- the first i wires are below the wire at place i, and that one is below n
module _ (n : ℕ) (s : List ℕ) (i : ℕ) (is_set : (rising s && below n s) ≡ true) (h : i < length s) where
  front : (m : ℕ) → Chosen 0 m (take (suc i) s) → Chosen 0 (get_or s i 0) (take i s) × (0 ≤ get_or s i 0) × (get_or s i 0 < m)
  front m c = chosen_snoc 0 m (take i s) (get_or s i 0) (subst (Chosen 0 m) (take-suc s i 0 h) c)

  wires : Chosen 0 n (take (suc i) s)
  wires = chosen_take 0 n s (suc i) (chosen_true 0 n s (sym (rising_chosen n s) ∙ is_set))

  pub wire_inside : get_or s i 0 < n
  wire_inside = (front n wires).2

  -- the rank of the first i wires, and the count from which the next rank is taken
  module _ (r : ℕ) (ranked : Ranked s i r) where
    rank-inside : r < binom (get_or s i 0) i
    unfolding Ranked
    rank-inside = (ranked (get_or s i 0) (front n wires).0).0

    pub ranked-fits : r < binom (get_or s i 0 + 1) (i + 1)
    ranked-fits = omega (arith, rank-inside, ap₂ binom (add-one (get_or s i 0)) (add-one i), binom-suc (get_or s i 0) i)

    pub ranked-next : Ranked s (i + 1) (binom (get_or s i 0 + 1) (i + 1) - 1 - r)
    unfolding Ranked
    ranked-next = subst (λ (j : ℕ). Ranked s j q) (sym (add-one i)) next
      where
        x : ℕ
        x = get_or s i 0

        q : ℕ
        q = binom (x + 1) (i + 1) - 1 - r

        sums : q + suc r ≡ binom (suc x) (suc i)
        sums = omega (arith, ranked-fits, ap₂ binom (add-one x) (add-one i))

        next : Ranked s (suc i) q
        next m c =
            let f = front m c in
            let there = ranked x f.0 in (
              omega (arith, sums, binom_wider (suc x) m (suc i) f.2),
              set_at-step m i x r q f.2 there.0 sums ∙ ap (λ (l : List ℕ). l ++ (x ∷ [])) there.1 ∙ sym (take-suc s i 0 h),
            )

pub ranked-all : (n : ℕ) (s : List ℕ) (r : ℕ) → (rising s && below n s) ≡ true → Ranked s (length s) r → r ≡ rank_of n s
unfolding Ranked
ranked-all n s r is_set ranked =
    let whole = take-length s in
    let chosen-s = chosen_true 0 n s (sym (rising_chosen n s) ∙ is_set) in
    let there = ranked n (subst (Chosen 0 n) (sym whole) chosen-s) in
    sym (rank_unique n (length s) r s there.0 (there.1 ∙ whole))
