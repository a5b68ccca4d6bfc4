-- The test of a record's words: no bit beyond shares and masks.
--     limit_past         a limit past the word's end leaves no bit beyond
--     beyond_words       the bits beyond, found in the words of the shares on which the record depends and in its masks
--     a_beyond, b_beyond, then_the_masks     what the code's three tests say of a sum
use Prim.Native.Nat.{ℕ, ◌^◌, ◌≤◌, ◌<◌}
use native.Mathlib.Nat.{lt_of_lt_of_le}
use native.Mathlib.Omega.{arith}
use mathlib.Core.Path.{◌≡◌, refl, sym, ◌∙◌, ap, ap₂}
use mathlib.Core.Bool.{Bool, true, false, not, ◌&&◌, ◌||◌, or_assoc, or_comm, or-false, and-false, and-or_distrib_left, and-or_distrib_right}
use mathlib.Core.List.{List}
use borrow.Author.Tests.{lt-leb, not-true, not-false}
use lib.Dec.{leb}
use Rattle.limits.specs.Limits.{max_shares, max_masks}
use Rattle.basics.specs.Folds.{some, up_to}
use Rattle.basics.proofs.Tests.{or_left, or_right}
use Rattle.basics.proofs.Folds.{fold_cong, fold_hom, fold_both, fold_exchange, fold-below, fold_narrow, none_below}
use Rattle.wires.specs.Wires.{Terms, swap, depends_a, depends_b, beyond}
use Rattle.records.specs.declared.sums.Sum.{Sum}
use Rattle.records.specs.Words.{bit}
use Rattle.records.specs.Layout.{terms_of}
use Rattle.records.proofs.Words.{bit_high}

pub limit_past : (w s : ℕ) → 64 ≤ s → true ≡ not (some (λ k. bit w k && leb s k) (up_to 64))
limit_past w s h =
    sym
    (ap not
    (none_below 64 (λ k. bit w k && leb s k)
    (λ k l. ap (λ (b : Bool). bit w k && b) (lt-leb s k (lt_of_lt_of_le l h)) ∙ and-false (bit w k))))

-- ---- unions of tests

some_both : {A : Type 0} (f g : A → Bool) (l : List A) → some (λ x. f x || g x) l ≡ (some f l || some g l)
some_both = fold_both ◌||◌ false (λ b. refl) or_comm or_assoc

some-and : {A : Type 0} (c : Bool) (f : A → Bool) (l : List A) → (some f l && c) ≡ some (λ x. f x && c) l
some-and c = fold_hom ◌||◌ false ◌||◌ false (λ (b : Bool). b && c) refl (λ a b. and-or_distrib_right a b c)

-- a row or a single bit beyond
rows_beyond : (t : Terms) (n : ℕ) (late : ℕ → Bool)
    → some (λ i. depends_a n t i && late i) (up_to n)
    ≡ (some (λ i. some (λ j. t.product i j && late i) (up_to n)) (up_to n) || some (λ i. t.share_a i && late i) (up_to n))
rows_beyond t n late =
    fold_cong ◌||◌ false (λ i. depends_a n t i && late i) (λ i. some (λ j. t.product i j && late i) (up_to n) || t.share_a i && late i) (up_to n)
    (λ i. and-or_distrib_right (some (t.product i) (up_to n)) (t.share_a i) (late i)
    ∙ ap (λ (b : Bool). b || t.share_a i && late i) (some-and (late i) (t.product i) (up_to n)))
    ∙ some_both (λ i. some (λ j. t.product i j && late i) (up_to n)) (λ i. t.share_a i && late i) (up_to n)

-- a product beyond has its row or its column beyond
products-beyond : (t : Terms) (n : ℕ) (late : ℕ → Bool)
    → some (λ i. some (λ j. t.product i j && (late i || late j)) (up_to n)) (up_to n)
    ≡ (some (λ i. some (λ j. t.product i j && late i) (up_to n)) (up_to n) || some (λ j. some (λ i. t.product i j && late j) (up_to n)) (up_to n))
products-beyond t n late =
    fold_cong ◌||◌ false (λ i. some (λ j. t.product i j && (late i || late j)) (up_to n))
    (λ i. some (λ j. t.product i j && late i) (up_to n) || some (λ j. t.product i j && late j) (up_to n)) (up_to n)
    (λ i. fold_cong ◌||◌ false (λ j. t.product i j && (late i || late j)) (λ j. t.product i j && late i || t.product i j && late j) (up_to n)
    (λ j. and-or_distrib_left (t.product i j) (late i) (late j))
    ∙ some_both (λ j. t.product i j && late i) (λ j. t.product i j && late j) (up_to n))
    ∙ some_both (λ i. some (λ j. t.product i j && late i) (up_to n)) (λ i. some (λ j. t.product i j && late j) (up_to n)) (up_to n)
    ∙ ap (λ (b : Bool). some (λ i. some (λ j. t.product i j && late i) (up_to n)) (up_to n) || b)
    (fold_exchange ◌||◌ false (λ b. refl) or_comm or_assoc (λ i j. t.product i j && late j) (up_to n) (up_to n))

regroup : (p q a b k : Bool) → (p || q || a || b || k) ≡ (p || a || (q || b) || k)
regroup true q a b k = refl
regroup false true true b k = refl
regroup false true false b k = refl
regroup false false a b k = refl

-- the words hold no bit past the shares
narrowed : (t : Terms) (w n : ℕ) → w < 2 ^ max_shares → ((i : ℕ) → i < max_shares → bit w i ≡ depends_a max_shares t i)
    → some (λ i. bit w i && leb n i) (up_to 64) ≡ some (λ i. depends_a max_shares t i && leb n i) (up_to max_shares)
narrowed t w n h e =
    fold_narrow ◌||◌ false (λ b. refl) or-false max_shares 64 (λ i. bit w i && leb n i) (omega arith)
    (λ i l k. ap (λ (b : Bool). b && leb n i) (bit_high max_shares w i h l))
    ∙ fold-below ◌||◌ false max_shares (λ i. bit w i && leb n i) (λ i. depends_a max_shares t i && leb n i) (λ i l. ap (λ (b : Bool). b && leb n i) (e i l))

pub beyond_words : (t : Terms) (n m wa wb k : ℕ) → wa < 2 ^ max_shares → ((i : ℕ) → i < max_shares → bit wa i ≡ depends_a max_shares t i) → wb < 2 ^ max_shares
    → ((j : ℕ) → j < max_shares → bit wb j ≡ depends_b max_shares t j)
    → ((i : ℕ) → bit k i ≡ t.mask i)
    → (some (λ i. bit wa i && leb n i) (up_to 64) || some (λ j. bit wb j && leb n j) (up_to 64) || some (λ i. bit k i && leb m i) (up_to 64))
    ≡ beyond max_shares max_masks n m t
unfolding beyond
beyond_words t n m wa wb k la ea lb eb ek =
    let late : ℕ → Bool = λ i. leb n i in
    ap₂ (λ (x y : Bool). x || y)
    (ap₂ (λ (x y : Bool). x || y) (narrowed t wa n la ea ∙ rows_beyond t max_shares late) (narrowed (swap t) wb n lb eb ∙ rows_beyond (swap t) max_shares late))
    (fold_cong ◌||◌ false (λ i. bit k i && leb m i) (λ i. t.mask i && leb m i) (up_to max_masks) (λ i. ap (λ (b : Bool). b && leb m i) (ek i)))
    ∙ sym
    (regroup (some (λ i. some (λ j. t.product i j && late i) (up_to max_shares)) (up_to max_shares))
    (some (λ j. some (λ i. t.product i j && late j) (up_to max_shares)) (up_to max_shares))
    (some (λ i. t.share_a i && late i) (up_to max_shares)) (some (λ j. t.share_b j && late j) (up_to max_shares)) (some (λ i. t.mask i && leb m i) (up_to max_masks)))
    ∙ ap
    (λ (b : Bool). b || some (λ i. t.share_a i && late i) (up_to max_shares) || some (λ j. t.share_b j && late j) (up_to max_shares)
    || some (λ i. t.mask i && leb m i) (up_to max_masks))
    (sym (products-beyond t max_shares late))

-- ---- the test, as the code makes it

module _ (s : Sum) (n m wa wb : ℕ)
    (la : wa < 2 ^ max_shares) (ea : (i : ℕ) → i < max_shares → bit wa i ≡ depends_a max_shares (terms_of s) i)
    (lb : wb < 2 ^ max_shares) (eb : (j : ℕ) → j < max_shares → bit wb j ≡ depends_b max_shares (terms_of s) j) where
  abbrev late : ℕ → ℕ → Bool
  late w k = some (λ i. bit w i && leb k i) (up_to 64)

  found : beyond max_shares max_masks n m (terms_of s) ≡ (late wa n || late wb n || late s.masks m)
  found = sym (beyond_words (terms_of s) n m wa wb s.masks la ea lb eb (λ i. refl))

  pub a_beyond : (x : Bool) → x ≡ not (late wa n) → x ≡ false → false ≡ not (beyond max_shares max_masks n m (terms_of s))
  a_beyond x e f =
      let l = not-false (late wa n) (sym e ∙ f) in
      sym (ap not (found ∙ or_left (late wa n || late wb n) (late s.masks m) (or_left (late wa n) (late wb n) l)))

  pub b_beyond : (x : Bool) → x ≡ not (late wb n) → x ≡ false → false ≡ not (beyond max_shares max_masks n m (terms_of s))
  b_beyond x e f =
      let l = not-false (late wb n) (sym e ∙ f) in
      sym (ap not (found ∙ or_left (late wa n || late wb n) (late s.masks m) (or_right (late wa n) (late wb n) l)))

  pub then_the_masks : (x y z : Bool) → x ≡ not (late wa n) → y ≡ not (late wb n) → z ≡ not (late s.masks m) → x ≡ true → y ≡ true
      → z ≡ not (beyond max_shares max_masks n m (terms_of s))
  then_the_masks x y z ex ey ez fx fy =
      ez
      ∙ sym
      (ap not
      (found
      ∙ ap₂ (λ (u v : Bool). u || v || late s.masks m) (not-true (late wa n) (sym ex ∙ fx)) (not-true (late wb n) (sym ey ∙ fy))))
