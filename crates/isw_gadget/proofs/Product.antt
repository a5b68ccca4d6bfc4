-- The gadget computes the product. On values, line i adds up to the product of shares i and, for each pair of shares, what it has of the pair: the
-- line of the lower share the mask, that of the higher one the mask and both products. So each mask goes twice and each product once.
--     share i j           what line i has for share j, as a value
--     line_worth          the value of a line
--     isw_product         the lines add up to the product of the operands
use Prim.Native.Nat.{ℕ, ◌+◌, ◌<◌}
use native.Mathlib.Omega.{arith}
use mathlib.Core.Path.{◌≡◌, refl, sym, ◌∙◌, ap, ap₂}
use mathlib.Core.Bool.{Bool, true, false, cond, ◌&&◌, xor}
use borrow.Author.Tests.{ltb-true, ltb-false, eqb-false, lt-ltb, le-ltb, eq-eqb, ne_eqb}
use lib.Dec.{eqb, ltb}
use Rattle.basics.specs.Folds.{parity, up_to}
use Rattle.basics.proofs.Tests.{xor-false, false-xor, xor_assoc, xor_self}
use Rattle.basics.proofs.Folds.{fold-map, fold_cong, fold-below, fold_lists}
use Rattle.wires.specs.Wires.{Input}
use Rattle.wires.specs.Function.{operand}
use Rattle.wires.specs.declared.Symbol.TheVariants.{Mask}
use Rattle.wires.proofs.Value.{parity_both}
use Rattle.wires.proofs.Units.{value_of_product, value_of_mask}
use Rattle.wires.proofs.Function.{product_of_sums}
use Rattle.description.specs.Grammar.{none, symbols}
use Rattle.description.proofs.Outers.{symbol_value}
use Rattle.isw_gadget.specs.Pairs.{pairs, pair_number}
use Rattle.isw_gadget.proofs.Gadget.{above, below, part, line, isw}
use Rattle.isw_gadget.proofs.Pairs.{pair_below}
use Rattle.isw_gadget.proofs.Sums.{square_diagonal}
use Rattle.isw_gadget.proofs.Lines.{line-symbols}

-- what the two lines of a pair have, each with one of the products
paired : (p q t : Bool) → xor p q ≡ xor t (xor q (xor p t))
unfolding xor
paired true true true = refl
paired true true false = refl
paired true false true = refl
paired true false false = refl
paired false true true = refl
paired false true false = refl
paired false false true = refl
paired false false false = refl

module _ (d : ℕ) (x : Input) (r : ℕ → Bool) where
  abbrev product : ℕ → ℕ → Bool
  product i j = x.of_a i && x.of_b j

  abbrev mask : ℕ → ℕ → Bool
  mask i j = r (pair_number d i j)

  abbrev share : ℕ → ℕ → Bool
  share i j = cond (eqb j i) false (cond (ltb i j) (mask i j) (xor (mask j i) (xor (product j i) (product i j))))

  abbrev with_product : ℕ → ℕ → Bool
  with_product i j = xor (product i j) (share i j)

  -- ---- what is the same for both shares of a pair

  lower : (i j : ℕ) → i < j → with_product i j ≡ with_product j i
  lower i j h =
      ap₂ (λ (a b : Bool). xor (product i j) (cond a false (cond b (mask i j) (xor (mask j i) (xor (product j i) (product i j))))))
      (ne_eqb j i (λ e. omega (arith, h, e))) (lt-ltb i j h)
      ∙ paired (product i j) (mask i j) (product j i)
      ∙ sym (ap₂ (λ (a b : Bool). xor (product j i) (cond a false (cond b (mask j i) (xor (mask i j) (xor (product i j) (product j i))))))
      (ne_eqb i j (λ e. omega (arith, h, e))) (le-ltb j i (omega (arith, h))))

  symmetric : (i j : ℕ) → with_product i j ≡ with_product j i
  symmetric i j = go (ltb i j) refl (ltb j i) refl
    where
      go : (a : Bool) → ltb i j ≡ a → (b : Bool) → ltb j i ≡ b → with_product i j ≡ with_product j i
      go true e b f = lower i j (ltb-true i j e)
      go false e true f = sym (lower j i (ltb-true j i f))
      go false e false f =
          let same : i ≡ j = omega (arith, ltb-false i j e, ltb-false j i f) in ap₂ with_product same (sym same)

  diagonal : (i : ℕ) → with_product i i ≡ product i i
  diagonal i =
      ap (λ (b : Bool). xor (product i i) (cond b false (cond (ltb i i) (mask i i) (xor (mask i i) (xor (product i i) (product i i))))))
      (eq-eqb i i refl)
      ∙ xor-false (product i i)

  -- ---- the lines

  abbrev worth : ℕ → ℕ → Bool
  worth i j = parity (symbol_value (d + 1) (pairs d) x r) (symbols (part d i j))

  part_worth : (i j : ℕ) → i < d + 1 → j < d + 1 → worth i j ≡ share i j
  part_worth i j h k = go (eqb j i) refl (ltb i j) refl
    where
      mask_worth : (i j : ℕ) → i < j → j < d + 1 → symbol_value (d + 1) (pairs d) x r (Mask (pair_number d i j)) ≡ mask i j
      mask_worth i j h k = value_of_mask (d + 1) (pairs d) x r (pair_number d i j) (pair_below d i j h (omega (arith, k)))

      go : (a : Bool) → eqb j i ≡ a → (b : Bool) → ltb i j ≡ b
          → parity (symbol_value (d + 1) (pairs d) x r) (symbols (cond a none (cond b (above d i j) (below d i j))))
          ≡ cond a false (cond b (mask i j) (xor (mask j i) (xor (product j i) (product i j))))
      go true e b f = refl
      go false e true f = ap (λ (z : Bool). xor z false) (mask_worth i j (ltb-true i j f) k) ∙ xor-false (mask i j)
      go false e false f =
          let high = ltb-false i j f in
          let apart = eqb-false j i e in
          ap₂ (λ (y z : Bool). xor y z) (mask_worth j i (omega (arith, high, apart)) h)
          (ap₂ (λ (y z : Bool). xor y z) (value_of_product (d + 1) (pairs d) x r j i k h)
          (ap (λ (z : Bool). xor z false) (value_of_product (d + 1) (pairs d) x r i j h k) ∙ xor-false (product i j)))

  pub line_worth : (i : ℕ) → i < d + 1
      → parity (symbol_value (d + 1) (pairs d) x r) (symbols (line d i)) ≡ xor (product i i) (parity (share i) (up_to (d + 1)))
  line_worth i h =
      ap (parity (symbol_value (d + 1) (pairs d) x r)) (line-symbols d i)
      ∙ ap₂ xor (value_of_product (d + 1) (pairs d) x r i i h h)
      (fold_lists xor false false-xor xor_assoc (symbol_value (d + 1) (pairs d) x r) (λ j. symbols (part d i j)) (up_to (d + 1))
      ∙ fold-below xor false (d + 1) (worth i) (share i) (λ j k. part_worth i j h k))

  pub isw_product : parity (λ is. parity (symbol_value (d + 1) (pairs d) x r) (symbols is)) (isw d).lines
      ≡ (operand (d + 1) x.of_a && operand (d + 1) x.of_b)
  isw_product =
      let n = d + 1 in
      let own = parity (λ i. product i i) (up_to n) in
      let shares = parity (λ i. parity (share i) (up_to n)) (up_to n) in
      let products = parity (λ i. parity (product i) (up_to n)) (up_to n) in
      let square : xor products shares ≡ own =
      sym (parity_both (λ i. parity (product i) (up_to n)) (λ i. parity (share i) (up_to n)) (up_to n))
      ∙ fold_cong xor false (λ i. xor (parity (product i) (up_to n)) (parity (share i) (up_to n))) (λ i. parity (with_product i) (up_to n)) (up_to n)
      (λ i. sym (parity_both (product i) (share i) (up_to n)))
      ∙ square_diagonal n with_product symmetric ∙ fold_cong xor false (λ i. with_product i i) (λ i. product i i) (up_to n) diagonal in
      fold-map xor false (line d) (λ is. parity (symbol_value (d + 1) (pairs d) x r) (symbols is)) (up_to n)
      ∙ fold-below xor false n (λ i. parity (symbol_value (d + 1) (pairs d) x r) (symbols (line d i)))
      (λ i. xor (product i i) (parity (share i) (up_to n))) line_worth
      ∙ parity_both (λ i. product i i) (λ i. parity (share i) (up_to n)) (up_to n)
      ∙ ap (λ (z : Bool). xor z shares) (sym square)
      ∙ xor_assoc products shares shares ∙ ap (xor products) (xor_self shares) ∙ xor-false products
      ∙ product_of_sums n x.of_a x.of_b
