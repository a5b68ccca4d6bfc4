-- The function check: one argument for the three functions.
--     product_of_sums     the product of two sums of bits
--     function-value      the terms of a function have the function as their value
--     computes-exactly    the test passes exactly when for every input and mask setting the outer wires' values add up to the function
use Prim.Native.Nat.{ℕ}
use mathlib.Core.Path.{◌≡◌, refl, sym, ◌∙◌, ap, ap₂}
use mathlib.Core.Logic.{◌↔◌}
use mathlib.Core.Bool.{Bool, true, false, cond, not, ◌&&◌, xor, and_comm}
use mathlib.Core.List.{List}
use native.Mathlib.Omega.{arith}
use borrow.Author.Tests.{eqb-true}
use lib.Dec.{eqb}
use Rattle.basics.specs.Folds.{parity, up_to}
use Rattle.basics.proofs.Tests.{xor-false, false-xor, xor_self, xor_same, and_xor}
use Rattle.basics.proofs.Folds.{fold_cong, fold_hom}
use Rattle.wires.specs.Wires.{Wire, Input, value, plus, total}
use Rattle.wires.specs.Function.{operand, function_of, function_terms, outers, AddUpTo, computes}
use Rattle.wires.proofs.Value.{nothing, no_products, value-plus, value-total}
use Rattle.wires.proofs.Dependence.{zero-blank, blank-zero}

-- a bit taken out of a sum
common : {A : Type 0} (c : Bool) (f : A → Bool) (l : List A) → parity (λ x. f x && c) l ≡ (parity f l && c)
common c f l = sym (fold_hom xor false xor false (λ (b : Bool). b && c) refl (λ a b. and_xor a b c) f l)

pub product_of_sums : (n : ℕ) (f g : ℕ → Bool) → parity (λ i. parity (λ j. f i && g j) (up_to n)) (up_to n) ≡ (operand n f && operand n g)
product_of_sums n f g =
    fold_cong xor false (λ i. parity (λ j. f i && g j) (up_to n)) (λ i. f i && operand n g) (up_to n) row ∙ common (operand n g) f (up_to n)
  where
    row : (i : ℕ) → parity (λ j. f i && g j) (up_to n) ≡ (f i && operand n g)
    row i =
        fold_cong xor false (λ j. f i && g j) (λ j. g j && f i) (up_to n) (λ j. and_comm (f i) (g j)) ∙ common (f i) g (up_to n)
        ∙ and_comm (operand n g) (f i)

-- terms that name all products or none, all shares of a or none, all shares of b or none
all-or-none : (n m : ℕ) (x : Input) (r : ℕ → Bool) (p a b : Bool) → let A = operand n x.of_a in let B = operand n x.of_b in
    value n m x r (record { product = λ i j. p; share_a = λ i. a; share_b = λ j. b; mask = λ k. false }) ≡ xor (p && (A && B)) (xor (a && A) (b && B))
unfolding value
all-or-none n m x r p a b =
    ap₂ xor (products p)
    (ap₂ xor (singles a x.of_a)
    (ap₂ xor (singles b x.of_b) (nothing (up_to m)) ∙ xor-false (b && operand n x.of_b)))
  where
    products : (p : Bool)
        → parity (λ i. parity (λ j. p && (x.of_a i && x.of_b j)) (up_to n)) (up_to n) ≡ (p && (operand n x.of_a && operand n x.of_b))
    products true = product_of_sums n x.of_a x.of_b
    products false = no_products n

    singles : (a : Bool) (f : ℕ → Bool) → parity (λ i. a && f i) (up_to n) ≡ (a && operand n f)
    singles true f = refl
    singles false f = nothing (up_to n)

pub function-value : (function n m : ℕ) (x : Input) (r : ℕ → Bool) → value n m x r (function_terms function) ≡ function_of function n x
function-value function n m x r =
    all-or-none n m x r (eqb function 1) (not (eqb function 1)) (eqb function 2) ∙ go (eqb function 1) (eqb function 2) refl refl
  where
    A : Bool
    A = operand n x.of_a

    B : Bool
    B = operand n x.of_b

    go : (p q : Bool) → eqb function 1 ≡ p → eqb function 2 ≡ q
        → xor (p && (A && B)) (xor (not p && A) (q && B)) ≡ cond p (A && B) (cond q (xor A B) A)
    go true true e f = let one : ◌≡◌ {A = ℕ} 1 2 = sym (eqb-true function 1 e) ∙ eqb-true function 2 f in absurd (omega (arith, one))
    go true false e f = ap (xor (A && B)) (false-xor false) ∙ xor-false (A && B)
    go false true e f = false-xor (xor A B)
    go false false e f = false-xor (xor A false) ∙ xor-false A

-- the value of what the test looks at
difference : (function n m : ℕ) (table : List Wire) (x : Input) (r : ℕ → Bool)
    → value n m x r (plus (total (outers table)) (function_terms function))
    ≡ xor (parity (λ w. value n m x r w.terms) (outers table)) (function_of function n x)
difference function n m table x r =
    value-plus n m x r (total (outers table)) (function_terms function)
    ∙ ap₂ xor (value-total n m x r (outers table)) (function-value function n m x r)

pub computes-exactly : (function n m : ℕ) (table : List Wire) → (computes function n m table ≡ true) ↔ AddUpTo function n m table
unfolding computes
computes-exactly function n m table = (
  λ e x r. xor_same (parity (λ w. value n m x r w.terms) (outers table)) (function_of function n x)
      (sym (difference function n m table x r) ∙ blank-zero n m (plus (total (outers table)) (function_terms function)) e x r),
  λ h. zero-blank n m (plus (total (outers table)) (function_terms function))
      (λ x r. difference function n m table x r ∙ ap (λ (b : Bool). xor b (function_of function n x)) (h x r) ∙ xor_self (function_of function n x)),
)
