-- How many symbols the gadget uses: every product of two shares once, every mask twice.
--     uses-count         so many symbols are used as there are shares, and four for each pair
--     several            each line uses more than one
use Prim.Native.Nat.{ℕ, zero, suc, ◌+◌, ◌*◌, ◌≤◌}
use native.Mathlib.Nat.{zero-lt-suc}
use native.Mathlib.Omega.{arith}
use mathlib.Core.Path.{◌≡◌, refl, ◌∙◌, ap, ap₂}
use mathlib.Core.Bool.{Bool, true, false, cond}
use borrow.Author.Tests.{ltb-true, lt-ltb, le-ltb, ne_eqb}
use lib.Dec.{eqb, ltb, eqb-suc-suc, eqb-zero-suc, eqb-suc-zero}
use lib.ListN.{length}
use Rattle.basics.specs.Folds.{up_to}
use Rattle.basics.proofs.Tests.{bool_ext}
use Rattle.basics.proofs.Folds.{fold-map, fold_cong, fold-first}
use Rattle.description.specs.Grammar.{none, symbols}
use Rattle.description.proofs.Counting.{all_symbols, single}
use Rattle.isw_gadget.specs.Pairs.{pairs}
use Rattle.isw_gadget.proofs.Gadget.{above, below, part, line, isw}
use Rattle.isw_gadget.proofs.Sums.{sum, sum_constant, sum_least, sum_both, length_lists}
use Rattle.isw_gadget.proofs.Lines.{line-symbols}

-- ---- how many symbols are used

-- of a part: none for a line's own share, one above it, three below
abbrev size : ℕ → ℕ → ℕ
size i j = cond (eqb j i) 0 (cond (ltb i j) 1 3)

part_size : (d i j : ℕ) → length (symbols (part d i j)) ≡ size i j
part_size d i j = go (eqb j i) (ltb i j)
  where
    go : (a b : Bool) → length (symbols (cond a none (cond b (above d i j) (below d i j)))) ≡ cond a 0 (cond b 1 3)
    go true b = refl
    go false true = refl
    go false false = refl

line_size : (d i : ℕ) → length (symbols (line d i)) ≡ 1 + sum (size i) (d + 1)
line_size d i =
    ap length (line-symbols d i)
    ∙ ap suc (length_lists (λ j. symbols (part d i j)) (up_to (d + 1)) ∙ fold_cong ◌+◌ 0 (λ j. length (symbols (part d i j))) (size i) (up_to (d + 1)) (part_size d i))
    ∙ omega arith

ltb_suc : (i j : ℕ) → ltb (suc i) (suc j) ≡ ltb i j
ltb_suc i j =
    bool_ext (ltb (suc i) (suc j)) (ltb i j) (λ e. let h = ltb-true (suc i) (suc j) e in lt-ltb i j (omega (arith, h)))
    (λ e. let h = ltb-true i j e in lt-ltb (suc i) (suc j) (omega (arith, h)))

size_suc : (i j : ℕ) → size (suc i) (suc j) ≡ size i j
size_suc i j = ap₂ (λ (a b : Bool). cond a 0 (cond b 1 3)) (eqb-suc-suc j i) (ltb_suc i j)

-- share 0 has a part in the line of each share above it, and each of these one in its line
square_size : (d : ℕ) → sum (λ i. sum (size i) (suc d)) (suc d) ≡ 4 * pairs d
unfolding up_to
square_size zero = refl
square_size (suc d) =
    let n = suc d in
    let rows = fold-first ◌+◌ 0 n (λ i. sum (size i) (suc n)) in
    let first = fold-first ◌+◌ 0 n (size 0) in
    let ones : sum (λ j. size 0 (suc j)) n ≡ 1 * n =
    fold_cong ◌+◌ 0 (λ j. size 0 (suc j)) (λ j. 1) (up_to n)
    (λ j. ap₂ (λ (a b : Bool). cond a 0 (cond b 1 3)) (eqb-suc-zero j) (lt-ltb 0 (suc j) (zero-lt-suc j)))
    ∙ sum_constant 1 n in
    let threes : sum (λ i. size (suc i) 0) n ≡ 3 * n =
    fold_cong ◌+◌ 0 (λ i. size (suc i) 0) (λ i. 3) (up_to n)
    (λ i. ap₂ (λ (a b : Bool). cond a 0 (cond b 1 3)) (eqb-zero-suc i) (le-ltb (suc i) 0 (omega arith)))
    ∙ sum_constant 3 n in
    let others : sum (λ i. sum (size (suc i)) (suc n)) n ≡ sum (λ i. size (suc i) 0) n + sum (λ i. sum (size i) n) n =
    fold_cong ◌+◌ 0 (λ i. sum (size (suc i)) (suc n)) (λ i. size (suc i) 0 + sum (size i) n) (up_to n)
    (λ i. fold-first ◌+◌ 0 n (size (suc i))
    ∙ ap (λ (k : ℕ). size (suc i) 0 + k) (fold_cong ◌+◌ 0 (λ j. size (suc i) (suc j)) (size i) (up_to n) (size_suc i)))
    ∙ sum_both (λ i. size (suc i) 0) (λ i. sum (size i) n) n in
    let rest = square_size d in
    omega (arith, rows, first, ones, threes, others, rest)

pub uses-count : (d : ℕ) → length (all_symbols (isw d).lines) ≡ (d + 1) + 4 * pairs d
uses-count d =
    let one_more : d + 1 ≡ suc d = omega arith in
    let lines : length (all_symbols (isw d).lines) ≡ sum (λ i. length (symbols (line d i))) (d + 1) =
    length_lists symbols (isw d).lines ∙ fold-map ◌+◌ 0 (line d) (λ is. length (symbols is)) (up_to (d + 1)) in
    let parts : sum (λ i. length (symbols (line d i))) (d + 1) ≡ sum (λ i. 1) (d + 1) + sum (λ i. sum (size i) (d + 1)) (d + 1) =
    fold_cong ◌+◌ 0 (λ i. length (symbols (line d i))) (λ i. 1 + sum (size i) (d + 1)) (up_to (d + 1)) (line_size d)
    ∙ sum_both (λ i. 1) (λ i. sum (size i) (d + 1)) (d + 1) in
    let ones = sum_constant 1 (d + 1) in
    let square = ap (λ (n : ℕ). sum (λ i. sum (size i) n) n) one_more ∙ square_size d in
    omega (arith, lines, parts, ones, square)

-- each line has a part for another share
pub several : (d i : ℕ) → 1 ≤ d → single (line d i) ≡ false
several d i h =
    let long = line_size d i in
    let more = least i in
    ne_eqb (length (symbols (line d i))) 1 (λ e. omega (arith, e, long, more))
  where
    least : (i : ℕ) → 1 ≤ sum (size i) (d + 1)
    least zero = let second = sum_least (size 0) (d + 1) 1 (omega (arith, h)) in omega (arith, second)
    least (suc i) =
        let first = sum_least (size (suc i)) (d + 1) 0 (omega arith) in
        let three : size (suc i) 0 ≡ 3 = ap₂ (λ (a b : Bool). cond a 0 (cond b 1 3)) (eqb-zero-suc i) (le-ltb (suc i) 0 (omega arith)) in
        omega (arith, first, three)
