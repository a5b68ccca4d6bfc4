-- What the entries tell, for all that they accept.
--     count-told      the set count is the number of sets in the published list
--     at_told         what `set_from_rank` tells within the limits
--     told_at         the set that it writes for a rank is the one at it
--     rank-and-set    `rank_from_set` tells r of s exactly when `set_from_rank` writes s for r
use Prim.Native.Nat.{ℕ, ◌≤◌, ◌<◌}
use native.Mathlib.Omega.{arith}
use mathlib.Core.Path.{◌≡◌, refl, sym, ◌∙◌, ap, subst}
use mathlib.Core.Logic.{◌↔◌}
use mathlib.Core.Bool.{Bool, true, false, not, ◌&&◌}
use mathlib.Core.List.{List, [], ◌∷◌, ◌++◌, append-nil}
use borrow.Author.Tests.{le-ltb, lt-leb}
use lib.Dec.{eqb}
use lib.ListN.{length, drop, replicate, length-replicate, drop_of_length-le}
use Rattle.limits.specs.Limits.{max_wires, max_size}
use Rattle.basics.specs.Told.{Lent, values}
use Rattle.counts.specs.Counts.{binom}
use Rattle.basics.proofs.Tests.{and_right}
use Rattle.basics.proofs.Conditions.{not_both}
use Rattle.sets.proofs.Conditions.{rising_fails, below_fails, set_settled, rank_settled}
use Rattle.revolving.specs.Order.{revolving, set_at, rank_of, rising, below, is_set}
use Rattle.sets.specs.Answers.{set_count}
use Rattle.sets.specs.Visits.{SetTells, RankTells}
use Rattle.revolving.proofs.Rising.{is_set-parts, parts-is_set}
use Rattle.revolving.proofs.Revolving.{revolving-length, set_at-is-set, set_of_rank, rank_unique}

pub count-told : (n k : ℕ) → n ≤ max_wires → k ≤ max_size → set_count n k ≡ values (length (revolving n k) ∷ [])
count-told n k a b = simp (le-ltb max_wires n a, le-ltb max_size k b, revolving-length n k)

-- the set of a rank, as told
module _ (n k : ℕ) (a : n ≤ max_wires) (b : k ≤ max_size) where
  pub at_told : (r : ℕ) → r < binom n k → SetTells n k r (set_at n k r)
  at_told r h buffer room = simp (le-ltb max_wires n a, le-ltb max_size k b, le-ltb (length buffer) k room, lt-leb (binom n k) r h)

  -- a buffer that the set fills
  abbrev filled : List ℕ
  filled = replicate k 0

  room : k ≤ length filled
  room = omega (arith, length-replicate {A = ℕ} k 0)

  told-counted : (r : ℕ) (s : List ℕ) → SetTells n k r s → r < binom n k
  told-counted r s t =
      let none = (set_settled n k r filled).settles.answered.0 ([], ap (λ (l : Lent). l.told) (t filled room)) in
      let late : binom n k ≤ r → ⊥ = none.1.1.1.0 in
      omega arith

  pub told_at : (r : ℕ) (s : List ℕ) → SetTells n k r s → set_at n k r ≡ s
  told_at r s t =
      let e = ap (λ (l : Lent). l.held) (sym (at_told r (told-counted r s t) filled room) ∙ t filled room) in
      let none : drop k filled ≡ [] = drop_of_length-le filled {i = k} (omega (arith, length-replicate {A = ℕ} k 0)) in
      sym (append-nil (set_at n k r)) ∙ ap (λ (l : List ℕ). set_at n k r ++ l) (sym none) ∙ e ∙ ap (λ (l : List ℕ). s ++ l) none ∙ append-nil s

-- the rank of a set, as told
module _ (n : ℕ) (s : List ℕ) (a : n ≤ max_wires) (b : length s ≤ max_size) where
  rank-told : (rising s && below n s) ≡ true → RankTells n s (rank_of n s)
  rank-told e = simp (le-ltb max_wires n a, le-ltb max_size (length s) b, e)

  told-rising : (r : ℕ) → RankTells n s r → (rising s && below n s) ≡ true
  told-rising r t = go (rising s && below n s) refl
    where
      go : (c : Bool) → (rising s && below n s) ≡ c → (rising s && below n s) ≡ true
      go true e = e
      go false e = absurd (((rank_settled n s).answered.0 (r ∷ [], t)).1.1.0 ((not_both (rising_fails s) (below_fails n s)).0 (ap not e)))

pub rank-and-set : (n k r : ℕ) (s : List ℕ) → n ≤ max_wires → k ≤ max_size → ((length s ≡ k) × RankTells n s r) ↔ SetTells n k r s
rank-and-set n k r s a b = (there, back)
  where
    there : (length s ≡ k) × RankTells n s r → SetTells n k r s
    there t =
        let short : length s ≤ max_size = omega (arith, t.0) in
        let wires = told-rising n s a short r t.1 in
        let p = t.1 in
        let q = rank-told n s a short wires in
        let same : rank_of n s ≡ r = cc in
        let at = set_of_rank n k s (parts-is_set n k s t.0 wires) in
        subst (λ (m : ℕ). SetTells n k m s) same (subst (SetTells n k (rank_of n s)) at.1 (at_told n k a b (rank_of n s) at.0))

    back : SetTells n k r s → (length s ≡ k) × RankTells n s r
    back t =
        let counted = told-counted n k a b r s t in
        let at = told_at n k a b r s t in
        let is-set : is_set n k s ≡ true = subst (λ (l : List ℕ). is_set n k l ≡ true) at (set_at-is-set n k r counted) in
        let long : length s ≡ k = (is_set-parts n k s is-set).0 in
        let wires : (rising s && below n s) ≡ true = and_right (eqb (length s) k) (rising s && below n s) is-set in
        (long, rank-told n s a (omega arith) wires ∙ ap (λ (m : ℕ). values (m ∷ [])) (rank_unique n k r s counted at))
