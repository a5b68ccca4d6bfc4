-- Inputs that agree on the shares of the sums without masks give every pattern from equally many mask settings.
--     evenly          terms with a mask have either value for half of the settings
--     free m v l      whether the sum of the wires of v that l chooses has no mask
--     chosen          the shares on which some sum without masks depends
--     blind           the inputs give the pattern from equally many settings
use Prim.Native.Nat.{ℕ, ◌+◌, ◌*◌, ◌<◌}
use native.Mathlib.Nat.{zero-add, add_assoc, le_trans, le_of_eq, eq_of_mul-eq-mul_right}
use native.Mathlib.Omega.{arith}
use mathlib.Core.Path.{◌≡◌, refl, sym, ◌∙◌, ap, fun_ext}
use mathlib.Core.Bool.{Bool, true, false, not, ◌&&◌, xor}
use mathlib.Core.List.{List}
use lib.ListN.{length, length-map}
use lib.Dec.{eqb}
use Rattle.basics.specs.Folds.{parity, count, one_if}
use Rattle.basics.proofs.Tests.{and_both, xor_comm, xor_assoc, xor-true}
use Rattle.basics.proofs.Folds.{fold_cong, some_where}
use Rattle.wires.specs.Wires.{Terms, Wire, Input, value, total, swap, depends_a, masked}
use Rattle.wires.proofs.Value.{value_shift, value_agree}
use Rattle.wires.proofs.Dependence.{parity-one}
use Rattle.watcher.specs.Watcher.{bit_lists, mask_of, shown, equal, comes, Agree}
use Rattle.watcher.proofs.Counting.{sum, sum_both, sum_times, sum_exchange}
use Rattle.watcher.proofs.Bits.{add, pick, single, bit-add, single_bit, single_length, bits_cong, bits_some, bits_count}
use Rattle.watcher.proofs.Patterns.{shown-sum}
use Rattle.watcher.proofs.Halves.{halves}
use Rattle.watcher.proofs.Shares.{named}
use Rattle.watcher.proofs.Apart.{differ, told_apart}

-- adding the setting that sets one of the masks alone turns the value around
pub evenly : (n m : ℕ) (x : Input) (t : Terms) (b : Bool) → masked m t ≡ true
    → (let k = count (λ r. xor (value n m x (mask_of r) t) b) (bit_lists m) in k + k ≡ count (λ r. true) (bit_lists m))
unfolding masked
evenly n m x t b e =
    let w = some_where m t.mask e in
    halves m (λ r. true) (λ r. xor (value n m x (mask_of r) t) b) (single w.0) (le_trans (le_of_eq (single_length w.0)) w.1) (λ r. refl)
    (λ r. ap (λ (z : Bool). xor z b) (turned w.0 w.1 w.2 r) ∙ opposite (value n m x (mask_of r) t))
  where
    turned : (k : ℕ) → k < m → t.mask k ≡ true → (r : List Bool) → value n m x (mask_of (add r (single k))) t ≡ xor (value n m x (mask_of r) t) true
    turned k below h r =
        ap (λ (s : ℕ → Bool). value n m x s t) (fun_ext (λ i. bit-add r (single k) i ∙ ap (xor (mask_of r i)) (single_bit k i)))
        ∙ value_shift n m x (mask_of r) (λ i. eqb i k) t ∙ ap (xor (value n m x (mask_of r) t)) (parity-one m k t.mask below ∙ h)

    opposite : (a : Bool) → xor (xor a true) b ≡ not (xor a b)
    opposite a = xor_assoc a true b ∙ ap (xor a) (xor_comm true b) ∙ sym (xor_assoc a b true) ∙ xor-true (xor a b)

abbrev pub free : ℕ → List Wire → List Bool → Bool
free m v l = not (masked m (total (pick l v)))

-- the shares on which such a sum depends: of a by its terms as they are, of b with the operands exchanged
abbrev pub chosen : ℕ → ℕ → List Wire → (Terms → Terms) → ℕ → Bool
chosen n m v g = named n (length v) (free m v) (λ l. g (total (pick l v)))

module _ (n m : ℕ) (v : List Wire) (p : List Bool) (long : length p ≡ length v) where
  -- the chosen wires' sum has another value than the chosen bits of the pattern
  abbrev off : Input → List Bool → List Bool → Bool
  off x r l = xor (value n m x (mask_of r) (total (pick l v))) (parity (λ b. b) (pick l p))

  abbrev choices : ℕ
  choices = count (λ l. true) (bit_lists (length p))

  abbrev pairs : Input → ℕ
  pairs x = sum (λ r. count (off x r) (bit_lists (length p))) (bit_lists m)

  by_setting : (x : Input) (r : List Bool)
      → count (off x r) (bit_lists (length p)) + count (off x r) (bit_lists (length p)) + one_if (equal (shown n m x r v) p) * choices ≡ choices
  by_setting x r =
      ap (λ (k : ℕ). k + k + one_if (equal (shown n m x r v) p) * choices)
      (fold_cong ◌+◌ 0 (λ l. one_if (off x r l)) (λ l. one_if (differ (shown n m x r v) p l)) (bit_lists (length p))
      (λ l. ap (λ (b : Bool). one_if (xor b (parity (λ b. b) (pick l p)))) (sym (shown-sum n m x r l v))))
      ∙ told_apart (shown n m x r v) p (length-map v (λ w. value n m x (mask_of r) w.terms) ∙ sym long)

  of_all : (x : Input) → pairs x + pairs x + comes n m x v p * choices ≡ sum (λ r. choices) (bit_lists m)
  unfolding comes
  of_all x =
      let c : List Bool → ℕ = λ r. count (off x r) (bit_lists (length p)) in
      let e : List Bool → ℕ = λ r. one_if (equal (shown n m x r v) p) in
      let each = fold_cong ◌+◌ 0 (λ r. c r + c r + e r * choices) (λ r. choices) (bit_lists m) (by_setting x) in
      let parts = sum_both (λ r. c r + c r) (λ r. e r * choices) (bit_lists m) in
      omega (arith, each, parts, sum_both c c (bit_lists m), sum_times e choices (bit_lists m))

  module _ (x y : Input) (agree : Agree n (chosen n m v (λ t. t)) (chosen n m v swap) x y) where
    -- a sum without masks has the same value under both inputs, one with a mask has either value for half of the settings
    by_choice : (l : List Bool) → length l ≡ length p → count (λ r. off x r l) (bit_lists m) ≡ count (λ r. off y r l) (bit_lists m)
    by_choice l h = go (masked m t) refl
      where
        t : Terms
        t = total (pick l v)

        b : Bool
        b = parity (λ b. b) (pick l p)

        taken : (g : Terms → Terms) (i : ℕ) → masked m t ≡ false → depends_a n (g t) i ≡ true → chosen n m v g i ≡ true
        taken g i e d =
            bits_some (length v) (λ l. free m v l && depends_a n (g (total (pick l v))) i) l (h ∙ long)
            (and_both (not (masked m t)) (depends_a n (g t) i) (ap not e) d)

        go : (a : Bool) → masked m t ≡ a → count (λ r. off x r l) (bit_lists m) ≡ count (λ r. off y r l) (bit_lists m)
        go true e = omega (arith, evenly n m x t b e, evenly n m y t b e)
        go false e =
            fold_cong ◌+◌ 0 (λ r. one_if (off x r l)) (λ r. one_if (off y r l)) (bit_lists m)
            (λ r. ap (λ (z : Bool). one_if (xor z b))
            (value_agree n m x y (mask_of r) t (λ i below d. agree.on_a i below (taken (λ t. t) i e d))
            (λ j below d. agree.on_b j below (taken swap j e d))))

    -- pairs of a setting and a choice whose sum is off, counted by settings and by choices
    pub blind : comes n m x v p ≡ comes n m y v p
    blind =
        eq_of_mul-eq-mul_right choices (bits_count (length p) (λ l. true) refl) (comes n m x v p) (comes n m y v p)
        (omega (arith, same, of_all x, of_all y))
      where
        of_one : Input → List Bool → ℕ
        of_one x l = count (λ r. off x r l) (bit_lists m)

        same : pairs x ≡ pairs y
        same =
            sum_exchange (λ r l. one_if (off x r l)) (bit_lists m) (bit_lists (length p))
            ∙ bits_cong ◌+◌ 0 zero-add add_assoc (length p) (of_one x) (of_one y) by_choice
            ∙ sym (sum_exchange (λ r l. one_if (off y r l)) (bit_lists m) (bit_lists (length p)))
