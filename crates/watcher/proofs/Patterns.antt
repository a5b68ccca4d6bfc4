-- What the definitions of mask settings and patterns say.
--     equal_self, equal-exactly    the test on two lists of bits passes exactly when they are equal
--     settings_once                each list of m bits is a setting once, and nothing else is one
--     settings_number              there are 2 ^ m settings, with no masks one
--     comes-exactly                a pattern comes from a setting exactly when each watched wire has its bit as its value
--     patterns_of_all              every setting shows exactly one pattern
--     shown-sum                    the sum of what some of the wires show is the value of their sum
use Prim.Native.Nat.{ℕ, zero, suc, ◌+◌, ◌^◌, ◌<◌, suc-le-suc}
use native.Mathlib.Nat.{not-suc-le-zero, le_of_suc-le-suc, zero-lt-suc, zero-add, add-zero, add_comm, add_assoc, suc_inj, suc-ne-zero, two-pow-succ}
use mathlib.Core.Path.{◌≡◌, refl, sym, ◌∙◌, ap, ap₂}
use mathlib.Core.Logic.{◌↔◌}
use mathlib.Core.Bool.{Bool, true, false, not, xor, false≢true}
use mathlib.Core.List.{List, [], ◌∷◌, map}
use borrow.Author.Tests.{not-true, eq-eqb}
use lib.ListN.{length, get_or, length-append, length-map}
use lib.Dec.{eqb, eqb-zero-suc, eqb-suc-zero, eqb-suc-suc}
use Rattle.basics.specs.Folds.{fold, parity, one_if, count}
use Rattle.basics.proofs.Tests.{and_left, and_right, and_both, xor_self, xor_same}
use Rattle.basics.proofs.Folds.{fold_cong, fold-map, fold_unit, fold_exchange, count-all}
use Rattle.wires.specs.Wires.{Wire, Input, value, total}
use Rattle.wires.proofs.Value.{value-total}
use Rattle.watcher.specs.Watcher.{bit_lists, mask_of, shown, equal, comes}
use Rattle.watcher.proofs.Bits.{pick, pick_map, bits_first}

pub equal_self : (p : List Bool) → equal p p ≡ true
equal_self [] = refl
equal_self (b ∷ p) = and_both (not (xor b b)) (equal p p) (ap not (xor_self b)) (equal_self p)

same_bit : (b c : Bool) (p q : List Bool) → equal (b ∷ p) (c ∷ q) ≡ true → b ≡ c
same_bit b c p q e = xor_same b c (not-true (xor b c) (and_left (not (xor b c)) (equal p q) e))

same_rest : (b c : Bool) (p q : List Bool) → equal (b ∷ p) (c ∷ q) ≡ true → equal p q ≡ true
same_rest b c p q e = and_right (not (xor b c)) (equal p q) e

pub equal-exactly : (p q : List Bool) → (equal p q ≡ true) ↔ (p ≡ q)
equal-exactly p q = (there p q, λ e. ap (equal p) (sym e) ∙ equal_self p)
  where
    there : (p q : List Bool) → equal p q ≡ true → p ≡ q
    there [] [] e = refl
    there [] (c ∷ q) e = absurd (false≢true e)
    there (b ∷ p) [] e = absurd (false≢true e)
    there (b ∷ p) (c ∷ q) e = ap₂ {C = List Bool} ◌∷◌ (same_bit b c p q e) (there p q (same_rest b c p q e))

-- the sum of what some of the wires show is the value of their sum
pub shown-sum : (n m : ℕ) (x : Input) (r l : List Bool) (v : List Wire)
    → parity (λ b. b) (pick l (shown n m x r v)) ≡ value n m x (mask_of r) (total (pick l v))
shown-sum n m x r l v =
    let val : Wire → Bool = λ w. value n m x (mask_of r) w.terms in
    ap (parity (λ b. b)) (sym (pick_map val l v)) ∙ fold-map xor false val (λ b. b) (pick l v) ∙ sym (value-total n m x (mask_of r) (pick l v))

nowhere : (m : ℕ) → count (λ r. false) (bit_lists m) ≡ 0
nowhere m = fold_unit ◌+◌ 0 zero-add (λ r. 0) (bit_lists m) (λ r. refl)

pub settings_once : (m : ℕ) (r : List Bool) → count (equal r) (bit_lists m) ≡ one_if (eqb (length r) m)
unfolding bit_lists xor
settings_once zero [] = refl
settings_once zero (b ∷ r) = sym (ap one_if (eqb-suc-zero (length r)))
settings_once (suc m) [] =
    bits_first ◌+◌ 0 zero-add add_assoc m (λ s. one_if (equal [] s)) ∙ ap₂ ◌+◌ (nowhere m) (nowhere m) ∙ sym (ap one_if (eqb-zero-suc m))
settings_once (suc m) (false ∷ r) =
    bits_first ◌+◌ 0 zero-add add_assoc m (λ s. one_if (equal (false ∷ r) s)) ∙ ap₂ ◌+◌ (settings_once m r) (nowhere m)
    ∙ add-zero (one_if (eqb (length r) m))
    ∙ sym (ap one_if (eqb-suc-suc (length r) m))
settings_once (suc m) (true ∷ r) =
    bits_first ◌+◌ 0 zero-add add_assoc m (λ s. one_if (equal (true ∷ r) s)) ∙ ap₂ ◌+◌ (nowhere m) (settings_once m r)
    ∙ zero-add (one_if (eqb (length r) m))
    ∙ sym (ap one_if (eqb-suc-suc (length r) m))

pub settings_number : (m : ℕ) → length (bit_lists m) ≡ 2 ^ m
unfolding bit_lists
settings_number zero = refl
settings_number (suc m) =
    length-append (map (λ r. false ∷ r) (bit_lists m)) (map (λ r. true ∷ r) (bit_lists m))
    ∙ ap₂ ◌+◌ (length-map (bit_lists m) (λ r. false ∷ r) ∙ settings_number m) (length-map (bit_lists m) (λ r. true ∷ r) ∙ settings_number m)
    ∙ sym (two-pow-succ m)

-- a mapped list is a list of bits when it is so place by place
by_place : {A : Type 0} (f : A → Bool) (v : List A) (p : List Bool) → length p ≡ length v
    → (equal (map f v) p ≡ true) ↔ ((k : ℕ) → k < length v → (d : A) → f (get_or v k d) ≡ get_or p k false)
by_place {A} f v p e = (there v p, back v p e)
  where
    there : (v : List A) (p : List Bool) → equal (map f v) p ≡ true → (k : ℕ) → k < length v → (d : A) → f (get_or v k d) ≡ get_or p k false
    there [] p h k l d = absurd (not-suc-le-zero l)
    there (w ∷ v) [] h k l d = absurd (false≢true h)
    there (w ∷ v) (b ∷ p) h zero l d = same_bit (f w) b (map f v) p h
    there (w ∷ v) (b ∷ p) h (suc k) l d = there v p (same_rest (f w) b (map f v) p h) k (le_of_suc-le-suc l) d

    back : (v : List A) (p : List Bool) → length p ≡ length v → ((k : ℕ) → k < length v → (d : A) → f (get_or v k d) ≡ get_or p k false)
        → equal (map f v) p ≡ true
    back [] [] e h = refl
    back [] (b ∷ p) e h = absurd (suc-ne-zero (length p) e)
    back (w ∷ v) [] e h = absurd (suc-ne-zero (length v) (sym e))
    back (w ∷ v) (b ∷ p) e h =
        and_both (not (xor (f w) b)) (equal (map f v) p) (ap (λ (c : Bool). not (xor c b)) (h 0 (zero-lt-suc (length v)) w) ∙ ap not (xor_self b))
        (back v p (suc_inj e) (λ k l d. h (suc k) (suc-le-suc l) d))

pub comes-exactly : (n m : ℕ) (x : Input) (r : List Bool) (v : List Wire) (p : List Bool) → length p ≡ length v
    → (equal (shown n m x r v) p ≡ true) ↔ ((k : ℕ) → k < length v → (d : Wire) → value n m x (mask_of r) (get_or v k d).terms ≡ get_or p k false)
comes-exactly n m x r v p e = by_place (λ w. value n m x (mask_of r) w.terms) v p e

pub patterns_of_all : (n m : ℕ) (x : Input) (v : List Wire) → fold ◌+◌ 0 (comes n m x v) (bit_lists (length v)) ≡ length (bit_lists m)
unfolding comes
patterns_of_all n m x v =
    fold_exchange ◌+◌ 0 zero-add add_comm add_assoc (λ p r. one_if (equal (shown n m x r v) p)) (bit_lists (length v)) (bit_lists m)
    ∙ fold_cong ◌+◌ 0 (λ r. count (equal (shown n m x r v)) (bit_lists (length v))) (λ r. 1) (bit_lists m)
    (λ r. settings_once (length v) (shown n m x r v)
    ∙ ap one_if (eq-eqb (length (shown n m x r v)) (length v) (length-map v (λ w. value n m x (mask_of r) w.terms))))
    ∙ count-all (bit_lists m)
