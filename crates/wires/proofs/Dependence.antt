-- What dependence means: once for a, and for b with the operands exchanged.
--     parity_pick, parity-one, parity_never     sums in which one bit alone, or none, takes part
--     rate                the bit by which the value changes with share i of a
--     value_flip          the value of the input with that share changed
--     seen                where terms depend on share i of a, some input makes the rate 1
--     changed             a bit and the bit turned around are not the same
--     depends-seen, depends-seen_b     where terms depend on a share of a, of b, one input shows it whatever the masks are
--     depends-exactly     terms depend on share i of a exactly when two inputs that differ only there give them different values
--     depends-exactly_b   the same for share j of b
--     zero-blank          terms whose value is 0 everywhere have no bit set
--     NoBits              no bit is set
--     blank_bits, bits_blank     that is what the test says
--     bits_zero, blank-zero     then the value is 0 everywhere
use Prim.Native.Nat.{ℕ, ◌<◌}
use mathlib.Core.Path.{◌≡◌, refl, sym, ◌∙◌, ap, ap₂}
use mathlib.Core.Logic.{◌↔◌}
use mathlib.Core.Bool.{Bool, true, false, cond, not, ◌&&◌, ◌||◌, xor, true≢false, false≢true, and-false, or-false}
use mathlib.Core.List.{List}
use borrow.Author.Tests.{not-true, eqb-true}
use lib.Dec.{eqb}
use Rattle.basics.specs.Folds.{parity, some, up_to}
use Rattle.basics.proofs.Tests.{or-none, xor-false, false-xor, xor_two, xor-and, and_xor, and-cond}
use Rattle.basics.proofs.Folds.{fold_cong, fold_pick, some_where, none_below, never}
use Rattle.wires.specs.Wires.{Terms, Input, value, none, swap, swap_input, flip_a, flip_b, depends_a, depends_b, masked}
use Rattle.wires.specs.Function.{blank}
use Rattle.wires.proofs.Value.{parity-none, parity_both, value_none, value-below, value-swap, value_agree}

abbrev pub rate : ℕ → Input → Terms → ℕ → Bool
rate n x t i = xor (parity (λ j. t.product i j && x.of_b j) (up_to n)) (t.share_a i)

pub parity_pick : (n k : ℕ) (f : ℕ → Bool) → k < n → parity (λ i. cond (eqb i k) (f i) false) (up_to n) ≡ f k
parity_pick = fold_pick xor false false-xor xor-false

pub parity-one : (n k : ℕ) (f : ℕ → Bool) → k < n → parity (λ i. f i && eqb i k) (up_to n) ≡ f k
parity-one n k f h =
    fold_cong xor false (λ i. f i && eqb i k) (λ i. cond (eqb i k) (f i) false) (up_to n) (λ i. and-cond (f i) (eqb i k)) ∙ parity_pick n k f h

pub parity_never : {A : Type 0} (f : A → Bool) (l : List A) → parity (λ x. f x && false) l ≡ false
parity_never f l = parity-none (λ x. f x && false) l (λ x. and-false (f x))

module _ (n m i : ℕ) (below : i < n) (x : Input) (r : ℕ → Bool) (t : Terms) where
  -- one row of the products: with share k changed where c says so, the row's sum with b's shares is added
  row : (p : ℕ → Bool) (a c : Bool)
      → parity (λ j. p j && (xor a c && x.of_b j)) (up_to n)
      ≡ xor (parity (λ j. p j && (a && x.of_b j)) (up_to n)) (cond c (parity (λ j. p j && x.of_b j) (up_to n)) false)
  row p a c =
      fold_cong xor false (λ j. p j && (xor a c && x.of_b j)) (λ j. xor (p j && (a && x.of_b j)) (p j && (c && x.of_b j))) (up_to n)
      (λ j. ap (λ (z : Bool). p j && z) (and_xor a c (x.of_b j)) ∙ xor-and (p j) (a && x.of_b j) (c && x.of_b j))
      ∙ parity_both (λ j. p j && (a && x.of_b j)) (λ j. p j && (c && x.of_b j)) (up_to n)
      ∙ ap (xor (parity (λ j. p j && (a && x.of_b j)) (up_to n))) (chosen c)
    where
      chosen : (c : Bool) → parity (λ j. p j && (c && x.of_b j)) (up_to n) ≡ cond c (parity (λ j. p j && x.of_b j) (up_to n)) false
      chosen true = refl
      chosen false = parity_never p (up_to n)

  products : parity (λ k. parity (λ j. t.product k j && (xor (x.of_a k) (eqb k i) && x.of_b j)) (up_to n)) (up_to n)
      ≡ xor (parity (λ k. parity (λ j. t.product k j && (x.of_a k && x.of_b j)) (up_to n)) (up_to n))
      (parity (λ j. t.product i j && x.of_b j) (up_to n))
  products =
      fold_cong xor false (λ k. parity (λ j. t.product k j && (xor (x.of_a k) (eqb k i) && x.of_b j)) (up_to n))
      (λ k. xor (parity (λ j. t.product k j && (x.of_a k && x.of_b j)) (up_to n))
      (cond (eqb k i) (parity (λ j. t.product k j && x.of_b j) (up_to n)) false))
      (up_to n)
      (λ k. row (t.product k) (x.of_a k) (eqb k i))
      ∙ parity_both (λ k. parity (λ j. t.product k j && (x.of_a k && x.of_b j)) (up_to n))
      (λ k. cond (eqb k i) (parity (λ j. t.product k j && x.of_b j) (up_to n)) false) (up_to n)
      ∙ ap (xor (parity (λ k. parity (λ j. t.product k j && (x.of_a k && x.of_b j)) (up_to n)) (up_to n)))
      (parity_pick n i (λ k. parity (λ j. t.product k j && x.of_b j) (up_to n)) below)

  singles : parity (λ k. t.share_a k && xor (x.of_a k) (eqb k i)) (up_to n) ≡ xor (parity (λ k. t.share_a k && x.of_a k) (up_to n)) (t.share_a i)
  singles =
      fold_cong xor false (λ k. t.share_a k && xor (x.of_a k) (eqb k i)) (λ k. xor (t.share_a k && x.of_a k) (t.share_a k && eqb k i)) (up_to n)
      (λ k. xor-and (t.share_a k) (x.of_a k) (eqb k i))
      ∙ parity_both (λ k. t.share_a k && x.of_a k) (λ k. t.share_a k && eqb k i) (up_to n)
      ∙ ap (xor (parity (λ k. t.share_a k && x.of_a k) (up_to n))) (parity-one n i t.share_a below)

  pub value_flip : value n m (flip_a i x) r t ≡ xor (value n m x r t) (rate n x t i)
  unfolding value
  value_flip =
      let p = parity (λ k. parity (λ j. t.product k j && (x.of_a k && x.of_b j)) (up_to n)) (up_to n) in
      let q = parity (λ j. t.product i j && x.of_b j) (up_to n) in
      let a = parity (λ k. t.share_a k && x.of_a k) (up_to n) in
      let rest = xor (parity (λ j. t.share_b j && x.of_b j) (up_to n)) (parity (λ k. t.mask k && r k) (up_to m)) in
      ap₂ (λ (u v : Bool). xor u (xor v rest)) products singles
      ∙ ap (xor (xor p q))
      (ap (xor (xor a (t.share_a i))) (sym (xor-false rest)) ∙ xor_two a (t.share_a i) rest false ∙ ap (xor (xor a rest)) (xor-false (t.share_a i)))
      ∙ xor_two p q (xor a rest) (t.share_a i)

-- with b's shares 0 where the single bit is set, else with one share of b that the row names
pub seen : (n i : ℕ) (t : Terms) → depends_a n t i ≡ true → (x : Input) × (rate n x t i ≡ true)
seen n i t d = go (t.share_a i) refl
  where
    none_of_b : Input
    none_of_b = record { of_a = λ k. false; of_b = λ k. false }

    one_of_b : ℕ → Input
    one_of_b j = record { of_a = λ k. false; of_b = λ k. eqb k j }

    some_row : t.share_a i ≡ false → some (t.product i) (up_to n) ≡ true
    some_row e = sym (or-false (some (t.product i) (up_to n))) ∙ ap (λ (b : Bool). some (t.product i) (up_to n) || b) (sym e) ∙ d

    go : (b : Bool) → t.share_a i ≡ b → (x : Input) × (rate n x t i ≡ true)
    go true e = (none_of_b, ap₂ xor (parity_never (t.product i) (up_to n)) e ∙ false-xor true)
    go false e =
        let w = some_where n (t.product i) (some_row e) in
        (one_of_b w.0, ap₂ xor (parity-one n w.0 (t.product i) w.1 ∙ w.2) e ∙ xor-false true)

pub changed : (a : Bool) → a ≡ xor a true → ⊥
unfolding xor
changed true e = true≢false e
changed false e = false≢true e

-- one input shows the dependence whatever the masks are
pub depends-seen : (n m i : ℕ) (t : Terms) → i < n → depends_a n t i ≡ true
    → (x : Input) × ((r : ℕ → Bool) → value n m x r t ≡ value n m (flip_a i x) r t → ⊥)
depends-seen n m i t h d =
    let w = seen n i t d in
    (w.0, λ r e. changed (value n m w.0 r t) (e ∙ value_flip n m i h w.0 r t ∙ ap (xor (value n m w.0 r t)) w.1))

-- and so for b, with the operands exchanged
pub depends-seen_b : (n m j : ℕ) (t : Terms) → j < n → depends_b n t j ≡ true
    → (x : Input) × ((r : ℕ → Bool) → value n m x r t ≡ value n m (flip_b j x) r t → ⊥)
depends-seen_b n m j t h d =
    let w = depends-seen n m j (swap t) h d in
    let x = swap_input w.0 in
    (x, λ r e. w.1 r (value-swap n m x r t ∙ e ∙ sym (value-swap n m (flip_b j x) r t)))

pub depends-exactly : (n m i : ℕ) (t : Terms) → i < n
    → (depends_a n t i ≡ true) ↔ ((x : Input) × (r : ℕ → Bool) × (value n m x r t ≡ value n m (flip_a i x) r t → ⊥))
depends-exactly n m i t h = (λ d. let w = depends-seen n m i t h d in (w.0, λ k. false, w.1 (λ k. false)), back)
  where
    elsewhere : (x : Input) (k : ℕ) → depends_a n t i ≡ false → depends_a n t k ≡ true → x.of_a k ≡ (flip_a i x).of_a k
    elsewhere x k apart d = go (eqb k i) refl
      where
        go : (b : Bool) → eqb k i ≡ b → x.of_a k ≡ xor (x.of_a k) b
        go true e = absurd (true≢false (sym d ∙ ap (depends_a n t) (eqb-true k i e) ∙ apart))
        go false e = sym (xor-false (x.of_a k))

    back : (x : Input) × (r : ℕ → Bool) × (value n m x r t ≡ value n m (flip_a i x) r t → ⊥) → depends_a n t i ≡ true
    back w = go (depends_a n t i) refl
      where
        go : (b : Bool) → depends_a n t i ≡ b → b ≡ true
        go true e = refl
        go false e = absurd (w.2 (value_agree n m w.0 (flip_a i w.0) w.1 t (λ k b d. elsewhere w.0 k e d) (λ k b d. refl)))

pub depends-exactly_b : (n m j : ℕ) (t : Terms) → j < n
    → (depends_b n t j ≡ true) ↔ ((x : Input) × (r : ℕ → Bool) × (value n m x r t ≡ value n m (flip_b j x) r t → ⊥))
depends-exactly_b n m j t h = (
  λ d. let w = depends-seen_b n m j t h d in (w.0, λ k. false, w.1 (λ k. false)),
  λ w. (depends-exactly n m j (swap t) h).1
      (swap_input w.0, w.1, λ e. w.2 (sym (value-swap n m w.0 w.1 t) ∙ e ∙ value-swap n m (flip_b j w.0) w.1 t)),
)

module _ (n m : ℕ) (t : Terms) where
  -- with all shares 0 the masks alone are left
  masks_alone : (r : ℕ → Bool) → value n m (record { of_a = λ i. false; of_b = λ j. false }) r t ≡ parity (λ k. t.mask k && r k) (up_to m)
  unfolding value
  masks_alone r =
      let rest = parity (λ k. t.mask k && r k) (up_to m) in
      ap₂ xor
      (parity-none (λ i. parity (λ j. t.product i j && false) (up_to n)) (up_to n) (λ i. parity_never (t.product i) (up_to n)))
      (ap₂ xor (parity_never t.share_a (up_to n)) (ap (λ (z : Bool). xor z rest) (parity_never t.share_b (up_to n))))
      ∙ false-xor (xor false (xor false rest)) ∙ false-xor (xor false rest) ∙ false-xor rest

  pub zero-blank : ((x : Input) (r : ℕ → Bool) → value n m x r t ≡ false) → blank n m t ≡ true
  unfolding masked
  zero-blank zero =
      ap₂ (λ (b c : Bool). not (b || c || masked m t)) (no_share t zero)
      (no_share (swap t) (λ x r. value-swap n m (swap_input x) r t ∙ zero (swap_input x) r))
      ∙ ap not (none_below m t.mask no_mask)
    where
      no_share : (u : Terms) → ((x : Input) (r : ℕ → Bool) → value n m x r u ≡ false) → some (depends_a n u) (up_to n) ≡ false
      no_share u zero = none_below n (depends_a n u) (λ i h. go i h (depends_a n u i) refl)
        where
          go : (i : ℕ) → i < n → (b : Bool) → depends_a n u i ≡ b → b ≡ false
          go i h false e = refl
          go i h true e = let d = (depends-exactly n m i u h).0 e in absurd (d.2 (zero d.0 d.1 ∙ sym (zero (flip_a i d.0) d.1)))

      no_mask : (k : ℕ) → k < m → t.mask k ≡ false
      no_mask k h =
          let one : ℕ → Bool = λ i. eqb i k in
          sym (parity-one m k t.mask h) ∙ sym (masks_alone one) ∙ zero (record { of_a = λ i. false; of_b = λ j. false }) one

-- no bit is set for the n shares and m masks
pub record NoBits (n m : ℕ) (t : Terms) : Type 0 where
  pub no_product_lem : (i j : ℕ) → i < n → j < n → t.product i j ≡ false
  pub no_share_a : (i : ℕ) → i < n → t.share_a i ≡ false
  pub no_share_b : (j : ℕ) → j < n → t.share_b j ≡ false
  pub no_mask_lem : (k : ℕ) → k < m → t.mask k ≡ false

module _ (n m : ℕ) (t : Terms) where
  pub blank_bits : blank n m t ≡ true → NoBits n m t
  unfolding masked
  blank_bits e =
      let shares = some (depends_a n t) (up_to n) || some (depends_b n t) (up_to n) in
      let parts = or-none shares (masked m t) (not-true (shares || masked m t) e) in
      let each = or-none (some (depends_a n t) (up_to n)) (some (depends_b n t) (up_to n)) parts.0 in
      let a : (i : ℕ) → i < n → depends_a n t i ≡ false = λ i b. never n i (depends_a n t) each.0 b in
      let b : (j : ℕ) → j < n → depends_b n t j ≡ false = λ j c. never n j (depends_b n t) each.1 c in record {
        no_product_lem = λ i j c d. never n j (t.product i) (or-none (some (t.product i) (up_to n)) (t.share_a i) (a i c)).0 d;
        no_share_a = λ i c. (or-none (some (t.product i) (up_to n)) (t.share_a i) (a i c)).1;
        no_share_b = λ j c. (or-none (some (λ i. t.product i j) (up_to n)) (t.share_b j) (b j c)).1;
        no_mask_lem = λ k c. never m k t.mask parts.1 c;
      }

  pub bits_zero : NoBits n m t → (x : Input) (r : ℕ → Bool) → value n m x r t ≡ false
  bits_zero h x r = value-below n m x r t none h.no_product_lem h.no_share_a h.no_share_b h.no_mask_lem ∙ value_none n m x r

  pub bits_blank : NoBits n m t → blank n m t ≡ true
  bits_blank h = zero-blank n m t (bits_zero h)

  pub blank-zero : blank n m t ≡ true → (x : Input) (r : ℕ → Bool) → value n m x r t ≡ false
  blank-zero e = bits_zero (blank_bits e)
