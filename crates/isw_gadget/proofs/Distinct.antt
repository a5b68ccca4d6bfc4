-- The distinct symbols of the gadget: all products of two shares, each used once, and all masks, each used twice.
--     every_symbol        all products and masks
--     all_once           each symbol that is used is one of them, once
--     amid_at            a symbol is one of a list in which it has a place
--     all-used           each of them is used
--     distinct-count     so there are as many distinct ones
use Prim.Native.Nat.{ℕ, zero, suc, ◌+◌, ◌*◌, ◌≤◌, ◌<◌}
use native.Mathlib.Nat.{not-suc-le-zero, le_of_suc-le-suc}
use native.Mathlib.Omega.{arith}
use mathlib.Core.Path.{◌≡◌, refl, sym, ◌∙◌, ap, ap₂}
use mathlib.Core.Bool.{Bool, true, false, ◌&&◌, ◌||◌, or_assoc, and_assoc}
use mathlib.Core.List.{List, [], ◌∷◌, ◌++◌, map}
use borrow.Author.Tests.{ltb-true, ltb-false, eqb-true, le-leb, eq-eqb}
use lib.Dec.{eqb, ltb}
use lib.ListN.{length, length-append, get_or}
use Rattle.limits.specs.Limits.{max_masks}
use Rattle.basics.specs.Folds.{fold, every, count, one_if, up_to}
use Rattle.basics.proofs.Tests.{and_both, or_left, or_right, bool_ext}
use Rattle.basics.proofs.Folds.{fold-map, fold_cong, fold-append, fold_lists, up_to-length, every-below, some_at}
use Rattle.wires.specs.declared.Symbol.{Symbol}
use Rattle.wires.specs.declared.Symbol.TheVariants.{Product, Mask}
use Rattle.description.specs.Symbols.{max_mask, share_figure}
use Rattle.description.specs.Grammar.{Items, symbols, same_symbol}
use Rattle.description.proofs.Spelling.{same-spelled, spelled_same}
use Rattle.description.proofs.Distinct.{amid, distinct, distinct-all}
use Rattle.description.proofs.Counting.{all_symbols}
use Rattle.isw_gadget.specs.Pairs.{pairs}
use Rattle.isw_gadget.proofs.Gadget.{above, below, part, line, isw}
use Rattle.isw_gadget.proofs.Pairs.{pair_onto}
use Rattle.isw_gadget.proofs.Sums.{sum, sum_constant, zero-plus, one_passes, nothing-passes, length_lists, mapped_length}
use Rattle.isw_gadget.proofs.Lines.{above-is, below-is, line-symbols, lines_pass}

-- ---- all products and masks

abbrev products : ℕ → List Symbol
products n = fold ◌++◌ [] (λ i. map (Product i) (up_to n)) (up_to n)

abbrev masks_to : ℕ → List Symbol
masks_to m = map Mask (up_to m)

abbrev every_symbol : ℕ → List Symbol
every_symbol d = products (d + 1) ++ masks_to (pairs d)

every-length : (d : ℕ) → length (every_symbol d) ≡ (d + 1) * (d + 1) + pairs d
every-length d =
    let n = d + 1 in
    length-append (products n) (masks_to (pairs d))
    ∙ ap₂ (λ (a b : ℕ). a + b)
    (length_lists (λ i. map (Product i) (up_to n)) (up_to n)
    ∙ fold_cong ◌+◌ 0 (λ i. length (map (Product i) (up_to n))) (λ i. n) (up_to n) (λ i. mapped_length (Product i) (up_to n) ∙ up_to-length n)
    ∙ sum_constant n n)
    (mapped_length Mask (up_to (pairs d)) ∙ up_to-length (pairs d))

-- ---- each is there once

figure-same : (i k : ℕ) → eqb (share_figure i) (share_figure k) ≡ eqb i k
figure-same i k =
    bool_ext (eqb (share_figure i) (share_figure k)) (eqb i k)
    (λ e. let h = eqb-true (share_figure i) (share_figure k) e in eq-eqb i k (omega (arith, h)))
    (λ e. eq-eqb (share_figure i) (share_figure k) (ap (λ (x : ℕ). share_figure x) (eqb-true i k e)))

product-same : (i j k l : ℕ) → same_symbol (Product i j) (Product k l) ≡ (eqb i k && eqb j l)
product-same i j k l =
    ap₂ (λ (a b : Bool). a && (b && true)) (figure-same i k) (figure-same j l) ∙ go (eqb i k) (eqb j l)
  where
    go : (a b : Bool) → (a && (b && true)) ≡ (a && b)
    go true true = refl
    go true false = refl
    go false b = refl

-- of all symbols, those that are spelled as s: products, and masks
same_count : (d : ℕ) (s : Symbol)
    → count (λ u. same_symbol u s) (every_symbol d)
    ≡ sum (λ i. sum (λ j. one_if (same_symbol (Product i j) s)) (d + 1)) (d + 1) + sum (λ k. one_if (same_symbol (Mask k) s)) (pairs d)
same_count d s =
    fold-append ◌+◌ 0 zero-plus (λ k l m. omega arith) (λ u. one_if (same_symbol u s)) (products (d + 1)) (masks_to (pairs d))
    ∙ ap₂ (λ (a b : ℕ). a + b)
    (fold_lists ◌+◌ 0 zero-plus (λ k l m. omega arith) (λ u. one_if (same_symbol u s)) (λ i. map (Product i) (up_to (d + 1))) (up_to (d + 1))
    ∙ fold_cong ◌+◌ 0 (λ i. count (λ u. same_symbol u s) (map (Product i) (up_to (d + 1)))) (λ i. sum (λ j. one_if (same_symbol (Product i j) s)) (d + 1))
    (up_to (d + 1)) (λ i. fold-map ◌+◌ 0 (Product i) (λ u. one_if (same_symbol u s)) (up_to (d + 1))))
    (fold-map ◌+◌ 0 Mask (λ u. one_if (same_symbol u s)) (up_to (pairs d)))

product-once : (d i j : ℕ) → i < d + 1 → j < d + 1 → count (λ u. same_symbol u (Product i j)) (every_symbol d) ≡ 1
product-once d i j h g =
    same_count d (Product i j)
    ∙ ap₂ (λ (a b : ℕ). a + b)
    (fold_cong ◌+◌ 0 (λ k. sum (λ l. one_if (same_symbol (Product k l) (Product i j))) (d + 1)) (λ k. one_if (eqb k i)) (up_to (d + 1)) row
    ∙ one_passes (d + 1) i (λ k. eqb k i) h (λ k b. refl))
    (nothing-passes (pairs d))
  where
    go : (n : ℕ) (a : Bool) → sum (λ l. one_if (eqb l j)) n ≡ 1 → sum (λ l. one_if (a && eqb l j)) n ≡ one_if a
    go n true e = e
    go n false e = nothing-passes n

    row : (k : ℕ) → sum (λ l. one_if (same_symbol (Product k l) (Product i j))) (d + 1) ≡ one_if (eqb k i)
    row k =
        fold_cong ◌+◌ 0 (λ l. one_if (same_symbol (Product k l) (Product i j))) (λ l. one_if (eqb k i && eqb l j)) (up_to (d + 1))
        (λ l. ap (λ (b : Bool). one_if b) (product-same k l i j))
        ∙ go (d + 1) (eqb k i) (one_passes (d + 1) j (λ l. eqb l j) g (λ l b. refl))

module _ (d : ℕ) (few : pairs d ≤ max_masks) where
  mask-same : (i k : ℕ) → i < pairs d → k < pairs d → same_symbol (Mask i) (Mask k) ≡ eqb i k
  mask-same i k h l =
      bool_ext (same_symbol (Mask i) (Mask k)) (eqb i k)
      (λ e. let s = same-spelled (Mask i) (Mask k) (le-leb i max_mask (omega (arith, h, few))) (le-leb k max_mask (omega (arith, l, few))) e in
      eq-eqb i k (ap number s))
      (λ e. spelled_same (Mask i) (Mask k) (ap {B = Symbol} (λ x. Mask x) (eqb-true i k e)))
    where
      number : Symbol → ℕ
      number (Product i j) = 0
      number (Symbol.ShareA i) = 0
      number (Symbol.ShareB j) = 0
      number (Mask k) = k

  mask-once : (k : ℕ) → k < pairs d → count (λ u. same_symbol u (Mask k)) (every_symbol d) ≡ 1
  mask-once k h =
      same_count d (Mask k)
      ∙ ap₂ (λ (a b : ℕ). a + b)
      (fold_cong ◌+◌ 0 (λ i. sum (λ j. 0) (d + 1)) (λ i. 0) (up_to (d + 1)) (λ i. nothing-passes (d + 1)) ∙ nothing-passes (d + 1))
      (one_passes (pairs d) k (λ i. same_symbol (Mask i) (Mask k)) h (λ i b. mask-same i k b h))

  abbrev once : Symbol → Bool
  once s = eqb (count (λ u. same_symbol u s) (every_symbol d)) 1

  all_once : every once (all_symbols (isw d).lines) ≡ true
  all_once =
      fold_lists ◌&&◌ true (λ b. refl) and_assoc once symbols (isw d).lines
      ∙ lines_pass d once (λ i j h k. eq-eqb _ 1 (product-once d i j h k)) (λ k h. eq-eqb _ 1 (mask-once k h))

-- ---- and each is used

-- a symbol is one of a list in which it has a place
amid_at : (l : List Symbol) (k : ℕ) (s : Symbol) → k < length l → amid l (get_or l k s) ≡ true
amid_at [] k s h = absurd (not-suc-le-zero h)
amid_at (u ∷ l) zero s h = or_left (same_symbol u u) (amid l u) (spelled_same u u refl)
amid_at (u ∷ l) (suc k) s h = or_right (same_symbol (get_or l k s) u) (amid l (get_or l k s)) (amid_at l k s (le_of_suc-le-suc h))

module _ (d : ℕ) where
  abbrev is_used : Symbol → Bool
  is_used = amid (all_symbols (isw d).lines)

  line-used : (s : Symbol) (i : ℕ) → i < d + 1 → amid (symbols (line d i)) s ≡ true → is_used s ≡ true
  line-used s i h e =
      fold_lists ◌||◌ false (λ b. refl) or_assoc (same_symbol s) symbols (isw d).lines
      ∙ fold-map ◌||◌ false (line d) (λ is. amid (symbols is) s) (up_to (d + 1)) ∙ some_at (d + 1) i (λ i. amid (symbols (line d i)) s) h e

  -- the symbol at a place of what line i has for share j
  part-used : (i j : ℕ) (is : Items) → part d i j ≡ is → i < d + 1 → j < d + 1 → (k : ℕ) (s : Symbol) → k < length (symbols is)
      → is_used (get_or (symbols is) k s) ≡ true
  part-used i j is e h g k s b =
      let u = get_or (symbols is) k s in
      line-used u i h
      (ap (λ (l : List Symbol). amid l u) (line-symbols d i)
      ∙ or_right (same_symbol u (Product i i)) (amid (fold ◌++◌ [] (λ j. symbols (part d i j)) (up_to (d + 1))) u)
      (fold_lists ◌||◌ false (λ b. refl) or_assoc (same_symbol u) (λ j. symbols (part d i j)) (up_to (d + 1))
      ∙ some_at (d + 1) j (λ j. amid (symbols (part d i j)) u) g (ap (λ is. amid (symbols is) u) e ∙ amid_at (symbols is) k s b)))

  -- the products of a pair stand in the line of its higher share, at places 1 and 2 of its part
  pair_used : (i j k : ℕ) → j < i → i < d + 1 → k < 3 → is_used (get_or (symbols (below d i j)) k (Product i i)) ≡ true
  pair_used i j k h g b = part-used i j (below d i j) (below-is d i j h) g (omega (arith, h, g)) k (Product i i) b

  product-used : (i j : ℕ) → i < d + 1 → j < d + 1 → is_used (Product i j) ≡ true
  product-used i j h k = go (ltb i j) refl (ltb j i) refl
    where
      go : (a : Bool) → ltb i j ≡ a → (b : Bool) → ltb j i ≡ b → is_used (Product i j) ≡ true
      go true e b f = pair_used j i 1 (ltb-true i j e) k (omega arith)
      go false e true f = pair_used i j 2 (ltb-true j i f) h (omega arith)
      go false e false f =
          let low = ltb-false i j e in
          let high = ltb-false j i f in
          let same : i ≡ j = omega (arith, low, high) in
          ap (λ (l : ℕ). is_used (Product i l)) (sym same) ∙ line-used (Product i i) i h (amid_at (symbols (line d i)) 0 (Product i i) (omega arith))

  mask-used : (k : ℕ) → k < pairs d → is_used (Mask k) ≡ true
  mask-used k h =
      let p = pair_onto d k h in
      let high = p.within in
      let low = p.ordered in
      ap (λ (l : ℕ). is_used (Mask l)) (sym p.numbered)
      ∙ part-used p.first p.second (above d p.first p.second) (above-is d p.first p.second low) (omega (arith, low, high))
      (omega (arith, high)) 0 (Mask k) (omega arith)

  all-used : every is_used (every_symbol d) ≡ true
  all-used =
      fold-append ◌&&◌ true (λ b. refl) and_assoc is_used (products (d + 1)) (masks_to (pairs d))
      ∙ and_both (every is_used (products (d + 1))) (every is_used (masks_to (pairs d)))
      (fold_lists ◌&&◌ true (λ b. refl) and_assoc is_used (λ i. map (Product i) (up_to (d + 1))) (up_to (d + 1))
      ∙ every-below (d + 1) (λ i. every is_used (map (Product i) (up_to (d + 1)))) (λ i h. fold-map ◌&&◌ true (Product i) is_used (up_to (d + 1))
      ∙ every-below (d + 1) (λ j. is_used (Product i j)) (λ j k. product-used i j h k)))
      (fold-map ◌&&◌ true Mask is_used (up_to (pairs d)) ∙ every-below (pairs d) (λ k. is_used (Mask k)) mask-used)

  pub distinct-count : pairs d ≤ max_masks → distinct [] (all_symbols (isw d).lines) ≡ (d + 1) * (d + 1) + pairs d
  distinct-count few = distinct-all (every_symbol d) (all_symbols (isw d).lines) (all_once d few) all-used ∙ every-length d
