-- The numbers of sets beside the answer.
--     counts-length, counted-length     there is one for each size up to the order; with the rest, one for each size up to the highest order
--     counts_at, counted_at, counted-rest     of size k at k - 1; above the order, 0
--     places                            the places of the sizes up to the order
--     begun, begun_none, counted_more, counted_all     the sizes so far; none of them; one more; all of them
use Prim.Native.Nat.{ℕ, zero, suc, ◌+◌, ◌-◌, ◌≤◌, ◌<◌}
use native.Mathlib.Omega.{arith}
use mathlib.Core.Path.{◌≡◌, refl, sym, ◌∙◌, ap, ap₂}
use mathlib.Core.Logic.{◌⊎◌, inl, inr}
use mathlib.Core.List.{List, [], ◌++◌, append-nil}
use lib.ListN.{length, get_or, set, take, drop, replicate, length-append, length-replicate, get_or-append}
use lib.Seq.{set_at, append_snoc, get_or_at, get_or-append-add}
use Rattle.std.proofs.lemmas.List.{take-replicate, drop-replicate}
use Rattle.limits.specs.Limits.{max_order}
use Rattle.counts.specs.Counts.{binom}
use Rattle.sets_by_size.specs.Counted.{set_counts, counted}

module _ (wires : ℕ) where
  pub counts-length : (order : ℕ) → length (set_counts wires order) ≡ order
  counts-length zero = refl
  counts-length (suc k) =
      let next : k + 1 ≡ suc k = omega arith in length-append (set_counts wires k) _ ∙ ap (λ (n : ℕ). n + 1) (counts-length k) ∙ next

  pub counted-length : (order : ℕ) → order ≤ max_order → length (counted wires order) ≡ max_order
  counted-length order low =
      omega (
        arith,
        length-append (set_counts wires order) (replicate (max_order - order) 0),
        counts-length order,
        length-replicate {A = ℕ} (max_order - order) 0,
        low,
      )

  pub counts_at : (order k : ℕ) → k < order → get_or (set_counts wires order) k 0 ≡ binom wires (suc k)
  counts_at zero k h = absurd (omega (arith, h))
  counts_at (suc n) k h = go (split k n h) (counts_at n k)
    where
      split : (k n : ℕ) → k < suc n → (k < n) ⊎ (k ≡ n)
      split k zero h = inr (omega (arith, h))
      split zero (suc n) h = inl (omega arith)
      split (suc k) (suc n) h = go (split k n (omega (arith, h)))
        where
          go : (k < n) ⊎ (k ≡ n) → (suc k < suc n) ⊎ (suc k ≡ suc n)
          go (inl l) = inl (omega (arith, l))
          go (inr e) = inr (ap suc e)

      go : (k < n) ⊎ (k ≡ n) → (k < n → get_or (set_counts wires n) k 0 ≡ binom wires (suc k)) → get_or (set_counts wires (suc n)) k 0 ≡ binom wires (suc k)
      go (inl l) ih = get_or-append (set_counts wires n) _ 0 k (omega (arith, l, counts-length n)) ∙ ih l
      go (inr e) ih =
          get_or_at (set_counts wires n) _ [] 0 k (counts-length n ∙ sym e) ∙ ap (λ (m : ℕ). binom wires (suc m)) (sym e)

  pub counted_at : (order k : ℕ) → k < order → get_or (counted wires order) k 0 ≡ binom wires (suc k)
  counted_at order k h =
      get_or-append (set_counts wires order) (replicate (max_order - order) 0) 0 k (omega (arith, h, counts-length order)) ∙ counts_at order k h

  -- the sizes so far, and 0 for those to come
  abbrev pub begun : ℕ → ℕ → List ℕ
  begun all i = set_counts wires i ++ replicate (all - i) 0

  pub begun_none : (order : ℕ) → order ≤ max_order → take order (replicate max_order 0) ≡ begun order 0
  begun_none order h =
      let all : order ≡ order - 0 = omega arith in
      take-replicate order max_order 0 h ∙ ap (λ (n : ℕ). replicate n 0) all

  pub counted_more : (all : ℕ) (held : List ℕ) (i : ℕ) → i < all → held ≡ begun all i → set held i (binom wires (i + 1)) ≡ begun all (i + 1)
  counted_more all held i h e =
      let more : i + 1 ≡ suc i = omega arith in
      let left : all - i ≡ suc (all - suc i) = omega (arith, h) in
      ap₂ (λ (l : List ℕ) (m : ℕ). set l i (binom wires m)) (e ∙ ap (λ (n : ℕ). set_counts wires i ++ replicate n 0) left) more
      ∙ set_at (set_counts wires i) 0 (replicate (all - suc i) 0) (binom wires (suc i)) i (counts-length i)
      ∙ sym (append_snoc (set_counts wires i) (binom wires (suc i)) (replicate (all - suc i) 0))
      ∙ ap (begun all) (sym more)

  pub counted_all : (order : ℕ) (held : List ℕ) → held ≡ begun order order → held ++ drop order (replicate max_order 0) ≡ counted wires order
  counted_all order held e =
      let none : order - order ≡ 0 = omega arith in
      ap₂ {C = List ℕ} ◌++◌ (e ∙ ap (λ (n : ℕ). set_counts wires order ++ replicate n 0) none ∙ append-nil (set_counts wires order)) (drop-replicate order max_order 0)

pub places : (order : ℕ) → order ≤ max_order → length {A = ℕ} (take order (replicate max_order 0)) ≡ order
places order h = ap (length {A = ℕ}) (take-replicate order max_order 0 h) ∙ length-replicate {A = ℕ} order 0

-- 0 wherever one looks
pub zeros : (n k : ℕ) → ◌≡◌ {A = ℕ} (get_or (replicate n 0) k 0) 0
zeros zero k = refl
zeros (suc n) zero = refl
zeros (suc n) (suc k) = zeros n k

pub counted-rest : (wires order k : ℕ) → order ≤ k → get_or (counted wires order) k 0 ≡ 0
counted-rest wires order k h =
    let size = counts-length wires order in
    let at : k ≡ length (set_counts wires order) + (k - order) = omega (arith, size, h) in
    ap (λ (n : ℕ). get_or (counted wires order) n 0) at ∙ get_or-append-add (set_counts wires order) (replicate (max_order - order) 0) (k - order) 0
    ∙ zeros (max_order - order) (k - order)
