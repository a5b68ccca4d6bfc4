-- What each line says, share by share.
--     then_items, then_first, then_later     the items of items and then others
--     part-items                             a part is one item, but for a line's own share
--     items-before                           how many items stand before that of a share
--     line_says                              each line says what request No. 2 has it say
--     unplaced_laid, unplaced-line           items are the same without their places
--     same-following, text_laid              and so are their bytes
--     items-same                             items are what they have at each place
--     line_at                                the lines by their number
use Prim.Native.Nat.{ℕ, zero, suc, ◌+◌, ◌≤◌, ◌<◌, suc-le-suc}
use native.Mathlib.Nat.{not-suc-le-zero, zero-lt-suc}
use native.Mathlib.Omega.{arith}
use mathlib.Core.Path.{◌≡◌, refl, sym, ◌∙◌, ap, ap₂}
use mathlib.Core.Bool.{Bool, true, false, cond}
use mathlib.Core.List.{List, [], ◌∷◌, ◌++◌, map}
use lib.Dec.{eqb, ltb}
use lib.ListN.{length, drop, get_or}
use borrow.Author.Tests.{ne_eqb}
use Rattle.basics.specs.Folds.{fold, one_if, up_to}
use Rattle.basics.proofs.Folds.{fold-first, fold_hom, fold_cong, fold-below}
use Rattle.wires.specs.declared.Symbol.TheVariants.{Product}
use Rattle.description.specs.Bytes.{space, line_end, opening, closing}
use Rattle.description.specs.Symbols.{symbol_length, spelling}
use Rattle.description.specs.Grammar.{Items, none, symbol, group, Description, header_text}
use Rattle.description.specs.Printing.{an, bracketed, following, printed_line, text_of}
use Rattle.description.proofs.Laying.{◌then◌, laid, laid_lines_lem, laid_out}
use Rattle.description.proofs.Printing.{laid_fold}
use Rattle.isw_gadget.specs.Pairs.{pair_number}
use Rattle.isw_gadget.proofs.Gadget.{above, below, part, line, isw}
use Rattle.isw_gadget.specs.Says.{unplaced, items, item_at, LineSays}
use Rattle.isw_gadget.proofs.Sums.{sum, sum_constant, sum_both, nothing-passes, one_passes}
use Rattle.isw_gadget.proofs.Lines.{above-is, below-is}

-- ---- items and then others

then_items : (is js : Items) → items (is then js) ≡ items is + items js
then_items none js = omega arith
then_items (symbol p is) js = let rest = then_items is js in omega (arith, rest)
then_items (group o inside c is) js = let rest = then_items is js in omega (arith, rest)

then_first : (is js : Items) → items is ≡ 1 → item_at (is then js) 0 ≡ item_at is 0
then_first none js h = absurd (omega (arith, h))
then_first (symbol p is) js h = refl
then_first (group o inside c is) js h = refl

then_later : (is js : Items) (k : ℕ) → item_at (is then js) (items is + k) ≡ item_at js k
then_later none js k = let e : 0 + k ≡ k = omega arith in ap (item_at js) e
then_later (symbol p is) js k =
    let e : suc (items is) + k ≡ suc (items is + k) = omega arith in ap (item_at (symbol p (is then js))) e ∙ then_later is js k
then_later (group o inside c is) js k =
    let e : suc (items is) + k ≡ suc (items is + k) = omega arith in ap (item_at (group o inside c (is then js))) e ∙ then_later is js k

-- of items put together, those of part j after those of the parts before it
item_of : (n : ℕ) (f : ℕ → Items) (j : ℕ) → j < n → items (f j) ≡ 1
    → item_at (fold ◌then◌ none f (up_to n)) (sum (λ k. items (f k)) j) ≡ item_at (f j) 0
unfolding up_to
item_of zero f j h one = absurd (not-suc-le-zero h)
item_of (suc n) f zero h one =
    ap (λ is. item_at is 0) (fold-first ◌then◌ none n f) ∙ then_first (f 0) (fold ◌then◌ none (λ i. f (suc i)) (up_to n)) one
item_of (suc n) f (suc j) h one =
    ap₂ item_at (fold-first ◌then◌ none n f) (fold-first ◌+◌ 0 j (λ k. items (f k)))
    ∙ then_later (f 0) (fold ◌then◌ none (λ i. f (suc i)) (up_to n)) (sum (λ k. items (f (suc k))) j)
    ∙ item_of n (λ i. f (suc i)) j (omega (arith, h)) one

-- ---- the parts of a line

part-items : (d i j : ℕ) → items (part d i j) ≡ cond (eqb j i) 0 1
part-items d i j = go (eqb j i) (ltb i j)
  where
    go : (a b : Bool) → items (cond a none (cond b (above d i j) (below d i j))) ≡ cond a 0 1
    go true b = refl
    go false true = refl
    go false false = refl

-- all but one of the numbers below j, where i is one of them
items-before : (d i j : ℕ) (own : ℕ) → sum (λ k. one_if (eqb k i)) j ≡ own → sum (λ k. items (part d i k)) j + own ≡ j
items-before d i j own e =
    let parts = fold_cong ◌+◌ 0 (λ k. items (part d i k)) (λ k. cond (eqb k i) 0 1) (up_to j) (part-items d i) in
    let both = sum_both (λ k. cond (eqb k i) 0 1) (λ k. one_if (eqb k i)) j in
    let ones = fold_cong ◌+◌ 0 (λ k. cond (eqb k i) 0 1 + one_if (eqb k i)) (λ k. 1) (up_to j) (λ k. one (eqb k i)) in
    let all = sum_constant 1 j in
    omega (arith, parts, both, ones, all, e)
  where
    one : (b : Bool) → cond b 0 1 + one_if b ≡ 1
    one true = refl
    one false = refl

-- i is not below j, and it is
not_passed : (i j : ℕ) → j ≤ i → sum (λ k. one_if (eqb k i)) j ≡ 0
not_passed i j h =
    fold-below ◌+◌ 0 j (λ k. one_if (eqb k i)) (λ k. 0) (λ k l. ap (λ (b : Bool). one_if b) (ne_eqb k i (λ e. omega (arith, h, l, e)))) ∙ nothing-passes j

passed : (i j : ℕ) → i < j → sum (λ k. one_if (eqb k i)) j ≡ 1
passed i j h = one_passes j i (λ k. eqb k i) h (λ k l. refl)

pub line_says : (d i : ℕ) → i ≤ d → LineSays d (pair_number d) i (line d i)
line_says d i h = record { begins = refl; lower = below_i; higher = above_i; no_more = all }
  where
    below_i : (j : ℕ) → j < i → item_at (line d i) (j + 1) ≡ below d i j
    below_i j l =
        let place = items-before d i j 0 (not_passed i j (omega (arith, l))) in
        let next : j + 1 ≡ suc (sum (λ k. items (part d i k)) j) = omega (arith, place) in
        ap (item_at (line d i)) next
        ∙ item_of (d + 1) (part d i) j (omega (arith, l, h)) (ap items (below-is d i j l)) ∙ ap (λ is. item_at is 0) (below-is d i j l)

    above_i : (j : ℕ) → i < j → j ≤ d → item_at (line d i) j ≡ above d i j
    above_i j l m =
        let place = items-before d i j 1 (passed i j l) in
        let next : j ≡ suc (sum (λ k. items (part d i k)) j) = omega (arith, place) in
        ap (item_at (line d i)) next
        ∙ item_of (d + 1) (part d i) j (omega (arith, m)) (ap items (above-is d i j l)) ∙ ap (λ is. item_at is 0) (above-is d i j l)

    all : items (line d i) ≡ d + 1
    all =
        let place = items-before d i (d + 1) 1 (passed i (d + 1) (omega (arith, h))) in
        let size = fold_hom ◌then◌ none ◌+◌ 0 items refl then_items (part d i) (up_to (d + 1)) in
        omega (arith, place, size)

-- ---- without places

pub unplaced_laid : (p : ℕ) (is : Items) → unplaced (laid p is) ≡ unplaced is
unplaced_laid p none = refl
unplaced_laid p (symbol q is) = ap (an q.symbol) (unplaced_laid (p + 1 + symbol_length q.symbol) is)
unplaced_laid p (group o inside c is) =
    ap₂ bracketed (unplaced_laid (p + 1) inside) (unplaced_laid (p + 1 + length (following inside) + 1) is)

then_unplaced : (is js : Items) → unplaced (is then js) ≡ unplaced is then unplaced js
then_unplaced none js = refl
then_unplaced (symbol p is) js = ap (an p.symbol) (then_unplaced is js)
then_unplaced (group o inside c is) js = ap (bracketed (unplaced inside)) (then_unplaced is js)

part-unplaced : (d i j : ℕ) → unplaced (part d i j) ≡ part d i j
part-unplaced d i j = go (eqb j i) (ltb i j)
  where
    go : (a b : Bool) → unplaced (cond a none (cond b (above d i j) (below d i j))) ≡ cond a none (cond b (above d i j) (below d i j))
    go true b = refl
    go false true = refl
    go false false = refl

pub unplaced-line : (d i : ℕ) → unplaced (line d i) ≡ line d i
unplaced-line d i =
    ap (an (Product i i))
    (fold_hom ◌then◌ none ◌then◌ none unplaced refl then_unplaced (part d i) (up_to (d + 1))
    ∙ fold_cong ◌then◌ none (λ j. unplaced (part d i j)) (part d i) (up_to (d + 1)) (part-unplaced d i))

-- ---- the bytes do not depend on places

following-unplaced : (is : Items) → following (unplaced is) ≡ following is
following-unplaced none = refl
following-unplaced (symbol p is) = ap {B = List ℕ} (λ l. space ∷ (spelling p.symbol ++ l)) (following-unplaced is)
following-unplaced (group o inside c is) =
    ap₂ {C = List ℕ} (λ k l. space ∷ opening ∷ (drop 1 k ++ (closing ∷ l))) (following-unplaced inside) (following-unplaced is)

pub same-following : (is js : Items) → unplaced is ≡ unplaced js → following is ≡ following js
same-following is js e = sym (following-unplaced is) ∙ ap following e ∙ following-unplaced js

laid_lines : (p : ℕ) (lines : List Items) → fold ◌++◌ [] printed_line (laid_lines_lem p lines) ≡ fold ◌++◌ [] printed_line lines
laid_lines p lines =
    laid_fold ◌++◌ [] printed_line (λ p is. ap {B = List ℕ} (λ l. drop 1 l ++ (line_end ∷ [])) (same-following (laid p is) is (unplaced_laid p is))) p lines

pub text_laid : (d : Description) → text_of (laid_out d) ≡ text_of d
text_laid d =
    ap (λ (l : List ℕ). header_text d.order d.names ++ (line_end ∷ l)) (laid_lines (length (header_text d.order d.names)) d.lines)

-- ---- lines by their number

laid_at : (p : ℕ) (lines : List Items) (i : ℕ) → unplaced (get_or (laid_lines_lem p lines) i none) ≡ unplaced (get_or lines i none)
laid_at p [] i = refl
laid_at p (is ∷ lines) zero = unplaced_laid p is
laid_at p (is ∷ lines) (suc i) = laid_at (p + length (following is)) lines i

mapped_at : (f : ℕ → Items) (n i : ℕ) → i < n → get_or (map f (up_to n)) i none ≡ f i
unfolding up_to
mapped_at f zero i h = absurd (not-suc-le-zero h)
mapped_at f (suc n) zero h = refl
mapped_at f (suc n) (suc i) h = ap (λ l. get_or l i none) (twice (up_to n)) ∙ mapped_at (λ k. f (suc k)) n i (omega (arith, h))
  where
    twice : (l : List ℕ) → map f (map suc l) ≡ map (λ k. f (suc k)) l
    twice [] = refl
    twice (k ∷ l) = ap {B = List Items} (λ m. f (suc k) ∷ m) (twice l)

pub line_at : (d p i : ℕ) → i ≤ d → unplaced (get_or (laid_lines_lem p (isw d).lines) i none) ≡ line d i
line_at d p i h = laid_at p (isw d).lines i ∙ ap unplaced (mapped_at (line d) (d + 1) i (omega (arith, h))) ∙ unplaced-line d i

-- ---- items are what they have at each place

pub items-same : (is js : Items) → items is ≡ items js → ((k : ℕ) → k < items is → item_at is k ≡ item_at js k) → is ≡ js
items-same none none e h = refl
items-same none (symbol q js) e h = absurd (omega (arith, e))
items-same none (group o inside c js) e h = absurd (omega (arith, e))
items-same (symbol p is) none e h = absurd (omega (arith, e))
items-same (group o inside c is) none e h = absurd (omega (arith, e))
items-same (symbol p is) (symbol q js) e h =
    let first : symbol p none ≡ symbol q none = h 0 (zero-lt-suc (items is)) in
    let rest = items-same is js (omega (arith, e)) (λ k l. h (suc k) (suc-le-suc l)) in
    let same : p ≡ q = cc in
    ap₂ {C = Items} (λ a b. symbol a b) same rest
items-same (group o inside c is) (group o' inside' c' js) e h =
    let first : group o inside c none ≡ group o' inside' c' none = h 0 (zero-lt-suc (items is)) in
    let rest = items-same is js (omega (arith, e)) (λ k l. h (suc k) (suc-le-suc l)) in
    ap₂ {C = Items} (λ a b. a then b) first rest
items-same (symbol p is) (group o inside c js) e h =
    let first : symbol p none ≡ group o inside c none = h 0 (zero-lt-suc (items is)) in
    let z : ◌≡◌ {A = ℕ} 0 1 = cc in
    absurd (omega (arith, z))
items-same (group o inside c is) (symbol q js) e h =
    let first : group o inside c none ≡ symbol q none = h 0 (zero-lt-suc (items is)) in
    let z : ◌≡◌ {A = ℕ} 0 1 = cc in
    absurd (omega (arith, z))
