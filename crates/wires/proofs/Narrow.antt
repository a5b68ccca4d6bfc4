-- Records hold bits for more shares and masks than a gadget has. Where none is set beyond the gadget's own, nothing changes when all are looked at.
--     Within                          no bit is set beyond n shares and m masks, of those that a record can hold
--     within, not_beyond              exactly where the test finds none beyond
--     within_none, within-plus        so it is for no terms, and for a sum of two
--     AllWithin, within-total         for every wire of a list, and so for its sum
--     depends_narrow, count_a_narrow, count_b_narrow, masked_narrow    dependence, counts and masks over all bits of a record are those over the gadget's own
--     breaks_narrow, blank_narrow     and so are the breaking test and the test that no bit is set
use Prim.Native.Nat.{ℕ, ◌+◌, ◌≤◌, ◌<◌}
use native.Mathlib.Decide.{dec_lt}
use native.Mathlib.Omega.{arith}
use mathlib.Core.Path.{◌≡◌, refl, sym, ◌∙◌, ap, ap₂}
use mathlib.Core.Logic.{◌⊎◌, inl, inr}
use mathlib.Core.Bool.{Bool, true, false, not, ◌&&◌, ◌||◌, xor, true≢false, or-false}
use mathlib.Core.List.{List, [], ◌∷◌}
use native.Mathlib.Nat.{zero-add, add-zero, le_trans}
use borrow.Author.Tests.{le-leb, leb-true}
use lib.Dec.{ltb, leb}
use Rattle.basics.specs.Folds.{some, one_if, up_to}
use Rattle.basics.proofs.Tests.{or_left, or_right, or_cases, or-none, bool_ext, false-xor}
use Rattle.basics.proofs.Folds.{fold-below, fold_narrow, none_below, never}
use Rattle.wires.specs.declared.Notion.{Notion}
use Rattle.wires.specs.Wires.{Terms, Wire, none, plus, total, swap, depends_a, count_a, count_b, masked, allowed, breaks, beyond}
use Rattle.wires.specs.Function.{blank}
use Rattle.wires.proofs.Dependence.{blank_bits, bits_blank}

pub record Within (N M n m : ℕ) (t : Terms) : Type 0 where
  pub no_product_lem : (i j : ℕ) → i < N → j < N → (n ≤ i) ⊎ (n ≤ j) → t.product i j ≡ false
  pub no_a : (i : ℕ) → i < N → n ≤ i → t.share_a i ≡ false
  pub no_b : (j : ℕ) → j < N → n ≤ j → t.share_b j ≡ false
  pub no_mask_lem : (k : ℕ) → k < M → m ≤ k → t.mask k ≡ false

unset : (p q : Bool) → (p && q) ≡ false → q ≡ true → p ≡ false
unset true q e f = absurd (true≢false (sym f ∙ e))
unset false q e f = refl

module _ (N M n m : ℕ) where
  pub within : (t : Terms) → beyond N M n m t ≡ false → Within N M n m t
  unfolding beyond
  within t e =
      let p = some (λ i. some (λ j. t.product i j && (leb n i || leb n j)) (up_to N)) (up_to N) in
      let a = some (λ i. t.share_a i && leb n i) (up_to N) in
      let b = some (λ j. t.share_b j && leb n j) (up_to N) in
      let k = some (λ k. t.mask k && leb m k) (up_to M) in
      let x = or-none (p || a || b) k e in
      let y = or-none (p || a) b x.0 in
      let z = or-none p a y.0 in record {
        no_product_lem = λ i j c d h. unset (t.product i j) (leb n i || leb n j)
            (never N j (λ j. t.product i j && (leb n i || leb n j))
            (never N i (λ i. some (λ j. t.product i j && (leb n i || leb n j)) (up_to N)) z.0 c) d)
            (either i j h);
        no_a = λ i c h. unset (t.share_a i) (leb n i) (never N i (λ i. t.share_a i && leb n i) z.1 c) (le-leb n i h);
        no_b = λ j c h. unset (t.share_b j) (leb n j) (never N j (λ j. t.share_b j && leb n j) y.1 c) (le-leb n j h);
        no_mask_lem = λ i c h. unset (t.mask i) (leb m i) (never M i (λ i. t.mask i && leb m i) x.1 c) (le-leb m i h);
      }
    where
      either : (i j : ℕ) → (n ≤ i) ⊎ (n ≤ j) → (leb n i || leb n j) ≡ true
      either i j (inl h) = or_left (leb n i) (leb n j) (le-leb n i h)
      either i j (inr h) = or_right (leb n i) (leb n j) (le-leb n j h)

  -- and the other way round
  pub not_beyond : (t : Terms) → Within N M n m t → beyond N M n m t ≡ false
  unfolding beyond
  not_beyond t h =
      ap₂ (λ (x y : Bool). x || y)
      (ap₂ (λ (x y : Bool). x || y)
      (ap₂ (λ (x y : Bool). x || y)
      (none_below N (λ i. some (λ j. t.product i j && (leb n i || leb n j)) (up_to N))
      (λ i c. none_below N (λ j. t.product i j && (leb n i || leb n j))
      (λ j d. out (t.product i j) (leb n i || leb n j) (λ e. h.no_product_lem i j c d (late i j e)))))
      (none_below N (λ i. t.share_a i && leb n i) (λ i c. out (t.share_a i) (leb n i) (λ e. h.no_a i c (leb-true n i e)))))
      (none_below N (λ j. t.share_b j && leb n j) (λ j c. out (t.share_b j) (leb n j) (λ e. h.no_b j c (leb-true n j e)))))
      (none_below M (λ k. t.mask k && leb m k) (λ k c. out (t.mask k) (leb m k) (λ e. h.no_mask_lem k c (leb-true m k e))))
    where
      out : (p q : Bool) → (q ≡ true → p ≡ false) → (p && q) ≡ false
      out true true f = f refl
      out true false f = refl
      out false q f = refl

      late : (i j : ℕ) → (leb n i || leb n j) ≡ true → (n ≤ i) ⊎ (n ≤ j)
      late i j e = go (or_cases (leb n i) (leb n j) e)
        where
          go : (leb n i ≡ true) ⊎ (leb n j ≡ true) → (n ≤ i) ⊎ (n ≤ j)
          go (inl p) = inl (leb-true n i p)
          go (inr p) = inr (leb-true n j p)

  pub within_none : Within N M n m none
  within_none = record { no_product_lem = λ i j c d h. refl; no_a = λ i c h. refl; no_b = λ j c h. refl; no_mask_lem = λ k c h. refl }

  added : (p q : Bool) → p ≡ false → q ≡ false → xor p q ≡ false
  added p q e f = ap₂ xor e f ∙ false-xor false

  pub within-plus : (t u : Terms) → Within N M n m t → Within N M n m u → Within N M n m (plus t u)
  within-plus t u a b = record {
    no_product_lem = λ i j c d h. added (t.product i j) (u.product i j) (a.no_product_lem i j c d h) (b.no_product_lem i j c d h);
    no_a = λ i c h. added (t.share_a i) (u.share_a i) (a.no_a i c h) (b.no_a i c h);
    no_b = λ j c h. added (t.share_b j) (u.share_b j) (a.no_b j c h) (b.no_b j c h);
    no_mask_lem = λ k c h. added (t.mask k) (u.mask k) (a.no_mask_lem k c h) (b.no_mask_lem k c h);
  }

  within-swap : (t : Terms) → Within N M n m t → Within N M n m (swap t)
  within-swap t a = record { no_product_lem = λ i j c d h. a.no_product_lem j i d c (exchange i j h); no_a = a.no_b; no_b = a.no_a; no_mask_lem = a.no_mask_lem }
    where
      exchange : (i j : ℕ) → (n ≤ i) ⊎ (n ≤ j) → (n ≤ j) ⊎ (n ≤ i)
      exchange i j (inl h) = inr h
      exchange i j (inr h) = inl h

-- every wire of a list is within
abbrev pub AllWithin : ℕ → ℕ → ℕ → ℕ → List Wire → Type 0
AllWithin N M n m [] = Unit {0}
AllWithin N M n m (w ∷ s) = Within N M n m w.terms × AllWithin N M n m s

pub within-total : (N M n m : ℕ) (s : List Wire) → AllWithin N M n m s → Within N M n m (total s)
within-total N M n m [] h = within_none N M n m
within-total N M n m (w ∷ s) h = within-plus N M n m w.terms (total s) h.0 (within-total N M n m s h.1)

module _ (N M n m : ℕ) (small : n ≤ N) (few : m ≤ M) where
  some_narrow : (n N : ℕ) (f : ℕ → Bool) → n ≤ N → ((i : ℕ) → n ≤ i → i < N → f i ≡ false) → some f (up_to N) ≡ some f (up_to n)
  some_narrow = fold_narrow ◌||◌ false (λ x. refl) or-false

  pub depends_narrow : (t : Terms) → Within N M n m t → (i : ℕ) → i < N → depends_a N t i ≡ depends_a n t i
  depends_narrow t h i c = ap (λ (b : Bool). b || t.share_a i) (some_narrow n N (t.product i) small (λ j l d. h.no_product_lem i j c d (inr l)))

  pub count_a_narrow : (t : Terms) → Within N M n m t → count_a N t ≡ count_a n t
  unfolding count_a
  count_a_narrow t h =
      fold-below ◌+◌ 0 N (λ i. one_if (depends_a N t i)) (λ i. one_if (depends_a n t i)) (λ i c. ap one_if (depends_narrow t h i c))
      ∙ fold_narrow ◌+◌ 0 zero-add add-zero n N (λ i. one_if (depends_a n t i)) small (λ i l c. ap one_if (beyond-none i l c))
    where
      beyond-none : (i : ℕ) → n ≤ i → i < N → depends_a n t i ≡ false
      beyond-none i l c =
          ap₂ (λ (a b : Bool). a || b)
          (none_below n (t.product i) (λ j d. h.no_product_lem i j c (le_trans d small) (inl l)))
          (h.no_a i c l)

  pub count_b_narrow : (t : Terms) → Within N M n m t → count_b N t ≡ count_b n t
  count_b_narrow t h = count_a_narrow (swap t) (within-swap N M n m t h)

  pub masked_narrow : (t : Terms) → Within N M n m t → masked M t ≡ masked m t
  unfolding masked
  masked_narrow t h = some_narrow m M t.mask few (λ k l c. h.no_mask_lem k c l)

  pub breaks_narrow : (notion : Notion) (s : List Wire) → AllWithin N M n m s → breaks notion N M s ≡ breaks notion n m s
  unfolding breaks
  breaks_narrow notion s h =
      let w = within-total N M n m s h in
      ap₂ (λ (a b : Bool). not a && b) (masked_narrow (total s) w)
      (ap₂ (λ (x y : ℕ). ltb (allowed notion s) x || ltb (allowed notion s) y) (count_a_narrow (total s) w) (count_b_narrow (total s) w))

  -- no bit among those that a record can hold, or none of the gadget's own
  pub blank_narrow : (t : Terms) → Within N M n m t → blank N M t ≡ blank n m t
  blank_narrow t w =
      bool_ext (blank N M t) (blank n m t)
      (λ e. let b = blank_bits N M t e in
      bits_blank n m t (record {
        no_product_lem = λ i j c d. b.no_product_lem i j (le_trans c small) (le_trans d small);
        no_share_a = λ i c. b.no_share_a i (le_trans c small);
        no_share_b = λ j c. b.no_share_b j (le_trans c small);
        no_mask_lem = λ k c. b.no_mask_lem k (le_trans c few);
      }))
      (λ e. let b = blank_bits n m t e in
      bits_blank N M t (record {
        no_product_lem =
            λ i j c d. either (t.product i j) n i (λ x. either (t.product i j) n j (λ y. b.no_product_lem i j x y) (λ y. w.no_product_lem i j c d (inr y)))
            (λ x. w.no_product_lem i j c d (inl x));
        no_share_a = λ i c. either (t.share_a i) n i (λ x. b.no_share_a i x) (λ x. w.no_a i c x);
        no_share_b = λ j c. either (t.share_b j) n j (λ x. b.no_share_b j x) (λ x. w.no_b j c x);
        no_mask_lem = λ k c. either (t.mask k) m k (λ x. b.no_mask_lem k x) (λ x. w.no_mask_lem k c x);
      }))
    where
      either : (b : Bool) (n i : ℕ) → (i < n → b ≡ false) → (n ≤ i → b ≡ false) → b ≡ false
      either b n i f g = go (dec_lt i n)
        where
          go : Dec (i < n) → b ≡ false
          go (yes h) = f h
          go (no h) = g (omega arith)
