-- What single terms are worth: with the law of sums, the value of every record.
--     just_product, just_share, just_mask            the terms that name one product, one share of a, one mask
--     value_of_product, value_of_share, value_of_mask     their values: the product of the two shares, the share, the mask
--     value_of_share_b                            a share of b
--     symbol_terms                                 the terms that name one symbol alone
--     named_alone, alone_named                    of all symbols they name that one
use Prim.Native.Nat.{ℕ, ◌<◌}
use mathlib.Core.Path.{◌≡◌, refl, ◌∙◌, ap, ap₂}
use mathlib.Core.Bool.{Bool, true, false, ◌&&◌, xor, false≢true, and_comm}
use borrow.Author.Tests.{eqb-true, eq-eqb}
use lib.Dec.{eqb}
use Rattle.basics.specs.Folds.{parity, up_to}
use Rattle.basics.proofs.Tests.{xor-false, false-xor, and_left, and_right, and_both}
use Rattle.basics.proofs.Folds.{fold_cong}
use Rattle.wires.specs.declared.Symbol.{Symbol}
use Rattle.wires.specs.declared.Symbol.TheVariants.{Product, ShareA, ShareB, Mask}
use Rattle.wires.specs.Wires.{Terms, names, Input, value, swap, swap_input}
use Rattle.wires.proofs.Value.{nothing, no_products, value-swap}
use Rattle.wires.proofs.Dependence.{parity-one}

abbrev pub just_product : ℕ → ℕ → Terms
just_product i j = record { product = λ k l. eqb k i && eqb l j; share_a = λ k. false; share_b = λ k. false; mask = λ k. false }

abbrev pub just_share : ℕ → Terms
just_share i = record { product = λ k l. false; share_a = λ k. eqb k i; share_b = λ k. false; mask = λ k. false }

abbrev pub just_mask : ℕ → Terms
just_mask i = record { product = λ k l. false; share_a = λ k. false; share_b = λ k. false; mask = λ k. eqb k i }

picked : (n k : ℕ) (f : ℕ → Bool) → k < n → parity (λ i. eqb i k && f i) (up_to n) ≡ f k
picked n k f h =
    fold_cong xor false (λ i. eqb i k && f i) (λ i. f i && eqb i k) (up_to n) (λ i. and_comm (eqb i k) (f i)) ∙ parity-one n k f h

module _ (n m : ℕ) (x : Input) (r : ℕ → Bool) where
  pub value_of_mask : (k : ℕ) → k < m → value n m x r (just_mask k) ≡ r k
  unfolding value
  value_of_mask k h =
      ap₂ xor (no_products n) (ap₂ xor (nothing (up_to n)) (ap₂ xor (nothing (up_to n)) (picked m k r h)))
      ∙ false-xor (xor false (xor false (r k))) ∙ false-xor (xor false (r k)) ∙ false-xor (r k)

  pub value_of_share : (i : ℕ) → i < n → value n m x r (just_share i) ≡ x.of_a i
  unfolding value
  value_of_share i h =
      ap₂ xor (no_products n) (ap₂ xor (picked n i x.of_a h) (ap₂ xor (nothing (up_to n)) (nothing (up_to m))))
      ∙ false-xor (xor (x.of_a i) (xor false false)) ∙ ap (xor (x.of_a i)) (false-xor false) ∙ xor-false (x.of_a i)

  pub value_of_product : (i j : ℕ) → i < n → j < n → value n m x r (just_product i j) ≡ (x.of_a i && x.of_b j)
  unfolding value
  value_of_product i j h l =
      ap₂ xor products (ap₂ xor (nothing (up_to n)) (ap₂ xor (nothing (up_to n)) (nothing (up_to m))))
      ∙ ap (xor (x.of_a i && x.of_b j)) (false-xor (xor false false) ∙ false-xor false) ∙ xor-false (x.of_a i && x.of_b j)
    where
      row : (b : Bool) (k : ℕ) → parity (λ t. b && eqb t j && (x.of_a k && x.of_b t)) (up_to n) ≡ (b && (x.of_a k && x.of_b j))
      row true k = picked n j (λ t. x.of_a k && x.of_b t) l
      row false k = nothing (up_to n)

      products : parity (λ k. parity (λ t. eqb k i && eqb t j && (x.of_a k && x.of_b t)) (up_to n)) (up_to n) ≡ (x.of_a i && x.of_b j)
      products =
          fold_cong xor false (λ k. parity (λ t. eqb k i && eqb t j && (x.of_a k && x.of_b t)) (up_to n)) (λ k. eqb k i && (x.of_a k && x.of_b j))
          (up_to n)
          (λ k. row (eqb k i) k)
          ∙ picked n i (λ k. x.of_a k && x.of_b j) h

pub value_of_share_b : (n m : ℕ) (x : Input) (r : ℕ → Bool) (j : ℕ) → j < n → value n m x r (swap (just_share j)) ≡ x.of_b j
value_of_share_b n m x r j h = value-swap n m (swap_input x) r (just_share j) ∙ value_of_share n m (swap_input x) r j h

-- ---- symbols

abbrev pub symbol_terms : Symbol → Terms
symbol_terms (Product i j) = just_product i j
symbol_terms (ShareA i) = just_share i
symbol_terms (ShareB j) = swap (just_share j)
symbol_terms (Mask k) = just_mask k

pub named_alone : (s u : Symbol) → names (symbol_terms u) s ≡ true → s ≡ u
named_alone (Product i j) (Product k l) e =
    ap₂ {C = Symbol} (λ x y. Product x y) (eqb-true i k (and_left (eqb i k) (eqb j l) e)) (eqb-true j l (and_right (eqb i k) (eqb j l) e))
named_alone (ShareA i) (ShareA k) e = ap {B = Symbol} (λ x. ShareA x) (eqb-true i k e)
named_alone (ShareB j) (ShareB l) e = ap {B = Symbol} (λ x. ShareB x) (eqb-true j l e)
named_alone (Mask i) (Mask k) e = ap {B = Symbol} (λ x. Mask x) (eqb-true i k e)
named_alone (Product i j) (ShareA k) e = absurd (false≢true e)
named_alone (Product i j) (ShareB l) e = absurd (false≢true e)
named_alone (Product i j) (Mask k) e = absurd (false≢true e)
named_alone (ShareA i) (Product k l) e = absurd (false≢true e)
named_alone (ShareA i) (ShareB l) e = absurd (false≢true e)
named_alone (ShareA i) (Mask k) e = absurd (false≢true e)
named_alone (ShareB j) (Product k l) e = absurd (false≢true e)
named_alone (ShareB j) (ShareA k) e = absurd (false≢true e)
named_alone (ShareB j) (Mask k) e = absurd (false≢true e)
named_alone (Mask i) (Product k l) e = absurd (false≢true e)
named_alone (Mask i) (ShareA k) e = absurd (false≢true e)
named_alone (Mask i) (ShareB l) e = absurd (false≢true e)

pub alone_named : (s : Symbol) → names (symbol_terms s) s ≡ true
alone_named (Product i j) = and_both (eqb i i) (eqb j j) (eq-eqb i i refl) (eq-eqb j j refl)
alone_named (ShareA i) = eq-eqb i i refl
alone_named (ShareB j) = eq-eqb j j refl
alone_named (Mask k) = eq-eqb k k refl
