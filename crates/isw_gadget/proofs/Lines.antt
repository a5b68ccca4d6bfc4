-- The lines of the gadget: every property of a line is one of its parts.
--     by_share, above-is, below-is  a part is nothing, or one thing, or another
--     line-symbols                  those of a line
--     good_lines, shallow-lines     each line has items, no group is empty, two deep at most
--     lines_pass                    a test that all products and masks pass, passes for its symbols
--     known-lines                   its symbols are shares of the order and declared masks
--     line-printed, isw_printed     its bytes are those of the text
use Prim.Native.Nat.{ℕ, ◌+◌, ◌≤◌, ◌<◌}
use native.Mathlib.Omega.{arith}
use mathlib.Core.Path.{◌≡◌, refl, ◌∙◌, ap, ap₂}
use mathlib.Core.Bool.{Bool, true, false, cond, not, ◌&&◌, and_assoc}
use mathlib.Core.List.{List, [], ◌∷◌, ◌++◌, append_assoc, append-nil}
use borrow.Author.Tests.{ltb-true, ltb-false, eqb-false, lt-ltb, le-ltb, le-leb, ne_eqb}
use lib.Dec.{eqb, ltb, leb}
use Rattle.basics.specs.Folds.{fold, every, up_to}
use Rattle.basics.specs.Quoted.{bytes}
use Rattle.basics.proofs.Tests.{and_both}
use Rattle.basics.proofs.Folds.{fold-map, fold_cong, fold_hom, fold_lists, fold_keeps, every-below}
use Rattle.wires.specs.declared.Symbol.{Symbol}
use Rattle.wires.specs.declared.Symbol.TheVariants.{Product, Mask}
use Rattle.description.specs.Symbols.{spelling}
use Rattle.description.specs.Run.{max_depth}
use Rattle.description.specs.Grammar.{Items, none, empty, symbols, depth, known, header_text}
use Rattle.description.specs.Printing.{following, printed_line, text_of}
use Rattle.description.proofs.Laying.{◌then◌}
use Rattle.description.proofs.Events.{whole}
use Rattle.description.proofs.Joining.{then_following, then_symbols, then_whole, then_shallow, names-member}
use Rattle.isw_gadget.specs.Pairs.{pairs, pair_number}
use Rattle.isw_gadget.specs.Text.{mask_of, item, line_text, isw_text}
use Rattle.isw_gadget.proofs.Gadget.{above, below, part, line, isw}
use Rattle.isw_gadget.proofs.Pairs.{pair_below}

-- what holds of each line holds of all
every-line : (f : Items → Bool) (d : ℕ) → ((i : ℕ) → i < d + 1 → f (line d i) ≡ true) → every f (isw d).lines ≡ true
every-line f d h = fold-map ◌&&◌ true (line d) f (up_to (d + 1)) ∙ every-below (d + 1) (λ i. f (line d i)) h

-- for share j a line has nothing, one thing where j is above i, another where it is below
by_share : {A : Type 0} (P : A → Type 0) (i j : ℕ) (own above below : A) → P own → (i < j → P above) → (j < i → P below)
    → P (cond (eqb j i) own (cond (ltb i j) above below))
by_share P i j own above below p q r = go (eqb j i) refl (ltb i j) refl
  where
    go : (a : Bool) → eqb j i ≡ a → (b : Bool) → ltb i j ≡ b → P (cond a own (cond b above below))
    go true e b f = p
    go false e true f = q (ltb-true i j f)
    go false e false f =
        let high = ltb-false i j f in
        let apart = eqb-false j i e in
        r (omega (arith, high, apart))

-- the part of a higher share, and that of a lower one
pub above-is : (d i j : ℕ) → i < j → part d i j ≡ above d i j
above-is d i j h =
    ap₂ (λ (a b : Bool). cond a none (cond b (above d i j) (below d i j))) (ne_eqb j i (λ e. omega (arith, h, e))) (lt-ltb i j h)

pub below-is : (d i j : ℕ) → j < i → part d i j ≡ below d i j
below-is d i j h =
    ap₂ (λ (a b : Bool). cond a none (cond b (above d i j) (below d i j))) (ne_eqb j i (λ e. omega (arith, h, e))) (le-ltb i j (omega (arith, h)))

module _ (d : ℕ) where
  -- line i after its first product
  abbrev after : ℕ → Items
  after i = fold ◌then◌ none (part d i) (up_to (d + 1))

  pub line-symbols : (i : ℕ) → symbols (line d i) ≡ Product i i ∷ fold ◌++◌ [] (λ j. symbols (part d i j)) (up_to (d + 1))
  line-symbols i = ap {B = List Symbol} (λ l. Product i i ∷ l) (fold_hom ◌then◌ none ◌++◌ [] symbols refl then_symbols (part d i) (up_to (d + 1)))

  -- ---- what a description has to be

  part-whole : (i j : ℕ) → whole (part d i j) ≡ true
  part-whole i j = by_share (λ is. whole is ≡ true) i j none _ _ refl (λ h. refl) (λ h. refl)

  pub good_lines : every (λ is. not (empty is) && whole is) (isw d).lines ≡ true
  good_lines = every-line (λ is. not (empty is) && whole is) d (λ i b. fold_keeps ◌then◌ none (λ is. whole is ≡ true) refl
      (λ is js p q. then_whole is js ∙ and_both (whole is) (whole js) p q) (d + 1) (part d i) (λ j c. part-whole i j))

  pub shallow-lines : every (λ is. leb (depth is) max_depth) (isw d).lines ≡ true
  shallow-lines = every-line (λ is. leb (depth is) max_depth) d (λ i b. le-leb (depth (after i)) max_depth
      (fold_keeps ◌then◌ none (λ is. depth is ≤ max_depth) (omega arith) (then_shallow max_depth) (d + 1) (part d i)
      (λ j c. by_share (λ is. depth is ≤ max_depth) i j none _ _ (omega arith) (λ h. omega arith) (λ h. omega arith))))

  -- a test that all products of two shares and all masks pass, passes for every symbol of every line
  module _ (test : Symbol → Bool) (products : (i j : ℕ) → i < d + 1 → j < d + 1 → test (Product i j) ≡ true)
      (masks : (k : ℕ) → k < pairs d → test (Mask k) ≡ true) where
    pair_mask : (i j : ℕ) → i < j → j < d + 1 → test (Mask (pair_number d i j)) ≡ true
    pair_mask i j h k = masks (pair_number d i j) (pair_below d i j h (omega (arith, k)))

    part-passes : (i j : ℕ) → i < d + 1 → j < d + 1 → every test (symbols (part d i j)) ≡ true
    part-passes i j h k =
        by_share (λ is. every test (symbols is) ≡ true) i j none _ _ refl
        (λ l. and_both (test (Mask (pair_number d i j))) true (pair_mask i j l k) refl)
        (λ l. and_both (test (Mask (pair_number d j i))) (test (Product j i) && (test (Product i j) && true)) (pair_mask j i l h)
        (and_both (test (Product j i)) (test (Product i j) && true) (products j i k h)
        (and_both (test (Product i j)) true (products i j h k) refl)))

    line-passes : (i : ℕ) → i < d + 1 → every test (symbols (line d i)) ≡ true
    line-passes i h =
        ap (every test) (line-symbols i)
        ∙ and_both (test (Product i i)) (every test (fold ◌++◌ [] (λ j. symbols (part d i j)) (up_to (d + 1)))) (products i i h h)
        (fold_lists ◌&&◌ true (λ b. refl) and_assoc test (λ j. symbols (part d i j)) (up_to (d + 1))
        ∙ every-below (d + 1) (λ j. every test (symbols (part d i j))) (λ j k. part-passes i j h k))

    pub lines_pass : every (λ is. every test (symbols is)) (isw d).lines ≡ true
    lines_pass = every-line (λ is. every test (symbols is)) d line-passes

  pub known-lines : every (λ is. every (known (d + 1) (up_to (pairs d))) (symbols is)) (isw d).lines ≡ true
  known-lines =
      lines_pass (known (d + 1) (up_to (pairs d)))
      (λ i j h k. and_both (ltb i (d + 1)) (ltb j (d + 1)) (lt-ltb i (d + 1) h) (lt-ltb j (d + 1) k)) (names-member (pairs d))

  -- ---- its bytes

  part-printed : (i j : ℕ) → following (part d i j) ≡ cond (eqb j i) [] (bytes " " ++ item d i j)
  part-printed i j = go (eqb j i) refl (ltb i j) refl
    where
      go : (a : Bool) → eqb j i ≡ a → (b : Bool) → ltb i j ≡ b → following (part d i j) ≡ cond (eqb j i) [] (bytes " " ++ item d i j)
      go true e b f = simp e
      go false e true f = simp (e, f, append-nil)
      go false e false f =
          simp (e, f)
          (ap {B = List ℕ} (λ l. bytes " ((" ++ l)
          (ap (λ (l : List ℕ). l ++ bytes ")") (append_assoc (mask_of d j i) (bytes " " ++ spelling (Product j i)) (bytes ") " ++ spelling (Product i j)))
          ∙ append_assoc (mask_of d j i) _ (bytes ")")))

  line-printed : (i : ℕ) → printed_line (line d i) ≡ line_text d i
  line-printed i =
      ap (λ (l : List ℕ). (spelling (Product i i) ++ l) ++ bytes "\n")
      (fold_hom ◌then◌ none ◌++◌ [] following refl then_following (part d i) (up_to (d + 1))
      ∙ fold_cong ◌++◌ [] (λ j. following (part d i j)) (λ j. cond (eqb j i) [] (bytes " " ++ item d i j)) (up_to (d + 1)) (part-printed i))

  pub isw_printed : text_of (isw d) ≡ isw_text d
  unfolding isw_text
  isw_printed =
      ap (λ (l : List ℕ). header_text d (up_to (pairs d)) ++ (bytes "\n" ++ l))
      (fold-map ◌++◌ [] (line d) printed_line (up_to (d + 1)) ∙ fold_cong ◌++◌ [] (λ i. printed_line (line d i)) (line_text d) (up_to (d + 1)) line-printed)
