-- What every choice of shares has to hold: each share on which a sum of some of the watched wires depends, where no mask is left in it. Two inputs
-- that differ in such a share alone show patterns that the other never shows.
--     value_unmasked      terms that name no mask have one value, whatever the mask setting
--     not-blind           inputs that agree on the choice and give such a sum different values give some pattern from unequally many settings
--     needed, needed_b    the share is in the choice
use Prim.Native.Nat.{ℕ, ◌+◌, ◌≤◌, ◌<◌}
use native.Mathlib.Nat.{zero-add}
use native.Mathlib.Omega.{arith}
use mathlib.Core.Path.{◌≡◌, refl, sym, ◌∙◌, ap}
use mathlib.Core.Bool.{Bool, true, false, ◌&&◌, xor, true≢false}
use mathlib.Core.List.{List}
use borrow.Author.Tests.{eqb-true}
use lib.ListN.{length, replicate, length-replicate, length-map}
use lib.Dec.{eqb}
use Rattle.basics.specs.Folds.{parity, one_if, up_to}
use Rattle.basics.proofs.Tests.{xor-false}
use Rattle.basics.proofs.Folds.{fold_unit, fold-below, never}
use Rattle.wires.specs.Wires.{Terms, Wire, Input, value, total, flip_a, flip_b, depends_a, depends_b, masked}
use Rattle.wires.proofs.Dependence.{depends-seen, depends-seen_b}
use Rattle.watcher.specs.Watcher.{bit_lists, mask_of, shown, equal, comes, Agree, ChoiceWithin}
use Rattle.watcher.proofs.Counting.{count-some}
use Rattle.watcher.proofs.Bits.{pick, bits_some}
use Rattle.watcher.proofs.Patterns.{equal_self, equal-exactly, shown-sum}

module _ (n m : ℕ) (x : Input) where
  pub value_unmasked : (r s : ℕ → Bool) (t : Terms) → ((k : ℕ) → k < m → t.mask k ≡ false) → value n m x r t ≡ value n m x s t
  unfolding value
  value_unmasked r s t none =
      ap (λ (z : Bool). xor (parity (λ i. parity (λ j. t.product i j && (x.of_a i && x.of_b j)) (up_to n)) (up_to n))
      (xor (parity (λ i. t.share_a i && x.of_a i) (up_to n)) (xor (parity (λ j. t.share_b j && x.of_b j) (up_to n)) z)))
      (fold-below xor false m (λ k. t.mask k && r k) (λ k. t.mask k && s k)
      (λ k h. ap (λ (b : Bool). b && r k) (none k h) ∙ sym (ap (λ (b : Bool). b && s k) (none k h))))

  -- the pattern that a setting shows comes from that setting at least
  comes-once : (r : List Bool) (v : List Wire) → length r ≡ m → 1 ≤ comes n m x v (shown n m x r v)
  unfolding comes
  comes-once r v e =
      let shows : List Bool → Bool = λ s. equal (shown n m x s v) (shown n m x r v) in
      count-some shows (bit_lists m) (bits_some m shows r e (equal_self (shown n m x r v)))

held : (b : Bool) → (b ≡ false → ⊥) → b ≡ true
held true h = refl
held false h = absurd (h refl)

-- changing a share that is not chosen changes no chosen one
untouched : (chosen : ℕ → Bool) (i : ℕ) → chosen i ≡ false → (f : ℕ → Bool) (k : ℕ) → chosen k ≡ true → f k ≡ xor (f k) (eqb k i)
untouched chosen i out f k taken = go (eqb k i) refl
  where
    go : (b : Bool) → eqb k i ≡ b → f k ≡ xor (f k) b
    go true e = absurd (true≢false (sym taken ∙ ap chosen (eqb-true k i e) ∙ out))
    go false e = sym (xor-false (f k))

module _ (most_a most_b n m : ℕ) (v : List Wire) (c : ChoiceWithin most_a most_b n m v) (l : List Bool) (free : masked m (total (pick l v)) ≡ false) where
  -- the sum of the wires that l chooses
  abbrev part : Terms
  part = total (pick l v)

  -- the pattern that the first input shows where every mask is 0 comes from no setting under the second
  pub not-blind : (x y : Input) → Agree n c.chosen_a c.chosen_b x y → ((r : ℕ → Bool) → value n m x r part ≡ value n m y r part → ⊥) → ⊥
  unfolding comes masked
  not-blind x y agree apart =
      let here = comes-once n m x zeros v (length-replicate m false) in
      let same = c.blind x y agree p (length-map v (λ w. value n m x (mask_of zeros) w.terms)) in
      let nowhere = fold_unit ◌+◌ 0 zero-add (λ r. one_if (equal (shown n m y r v) p)) (bit_lists m) (λ r. other r (equal (shown n m y r v) p) refl) in
      omega (arith, here, same, nowhere)
    where
      zeros : List Bool
      zeros = replicate m false

      p : List Bool
      p = shown n m x zeros v

      other : (r : List Bool) (b : Bool) → equal (shown n m y r v) p ≡ b → one_if b ≡ 0
      other r false e = refl
      other r true e =
          absurd (apart (mask_of r)
          (value_unmasked n m x (mask_of r) (mask_of zeros) part (λ k h. never m k part.mask free h) ∙ sym (shown-sum n m x zeros l v)
          ∙ ap (λ (q : List Bool). parity (λ b. b) (pick l q)) (sym ((equal-exactly (shown n m y r v) p).0 e)) ∙ shown-sum n m y r l v))

  pub needed : (i : ℕ) → i < n → depends_a n part i ≡ true → c.chosen_a i ≡ true
  needed i below d =
      held (c.chosen_a i)
      (λ out. let s = depends-seen n m i part below d in
      not-blind s.0 (flip_a i s.0) (record { on_a = λ k b q. untouched c.chosen_a i out s.0.of_a k q; on_b = λ k b q. refl }) s.1)

  pub needed_b : (j : ℕ) → j < n → depends_b n part j ≡ true → c.chosen_b j ≡ true
  needed_b j below d =
      held (c.chosen_b j)
      (λ out. let s = depends-seen_b n m j part below d in
      not-blind s.0 (flip_b j s.0) (record { on_a = λ k b q. refl; on_b = λ k b q. untouched c.chosen_b j out s.0.of_b k q }) s.1)
