-- Pascal's rule over a whole table of counts, by one test that antt computes, row by row.
--     follows left us vs    in the row vs each entry is the sum of the one above it, in us, and of that one's left neighbour
--     rows m row rest       m more rows of eight follow `row`, each by the rule
--     first row             one set of no wires, and none of one to seven, out of no wires
--     pascal table          the first row is right, and 512 more follow by the rule
--     pascal_counts         a table that passes the test holds the counts
--     row, binom_row        a count worked out row by row: Pascal's clauses themselves take as many steps as the count
use Prim.Native.Nat.{ℕ, zero, suc, ◌+◌, ◌*◌, ◌≤◌, ◌<◌}
use native.Mathlib.Nat.{add-zero, zero-add, not-suc-le-zero, le_of_suc-le-suc}
use native.Mathlib.Omega.{arith}
use mathlib.Core.Path.{◌≡◌, refl, sym, ◌∙◌, ap}
use mathlib.Core.Bool.{Bool, true, false, ◌&&◌, true≢false}
use mathlib.Core.List.{List, [], ◌∷◌, ◌++◌}
use borrow.Author.Tests.{eqb-true, eq-eqb}
use lib.Dec.{eqb}
use lib.ListN.{length, get_or, take, drop, take-append-drop, get_or-append, replicate}
use Rattle.limits.specs.Limits.{max_wires, max_size, sizes}
use Rattle.counts.specs.Counts.{binom, Counts}
use Rattle.basics.proofs.Tests.{and_left, and_right}
use Rattle.counts.proofs.Lists.{get_d_second}
use Rattle.counts.proofs.Binomial.{binom-zero, binom-none, binom-suc}

abbrev follows : ℕ → List ℕ → List ℕ → Bool
follows left [] [] = true
follows left [] (v ∷ vs) = false
follows left (u ∷ us) [] = false
follows left (u ∷ us) (v ∷ vs) = eqb v (u + left) && follows u us vs

abbrev rows : ℕ → List ℕ → List ℕ → Bool
rows zero row rest = true
rows (suc m) row rest = follows 0 row (take sizes rest) && rows m (take sizes rest) (drop sizes rest)

-- a first row of one set of no wires, and none of one or more
abbrev zeros : List ℕ → Bool
zeros [] = true
zeros (x ∷ xs) = eqb x 0 && zeros xs

abbrev first : List ℕ → Bool
first [] = false
first (x ∷ xs) = eqb x 1 && (eqb (length xs) max_size && zeros xs)

abbrev pub pascal : List ℕ → Bool
pascal table = first (take sizes table) && rows max_wires (take sizes table) (drop sizes table)

follows_length : (left : ℕ) (us vs : List ℕ) → follows left us vs ≡ true → length vs ≡ length us
follows_length left [] [] e = refl
follows_length left [] (v ∷ vs) e = absurd (true≢false (sym e))
follows_length left (u ∷ us) [] e = absurd (true≢false (sym e))
follows_length left (u ∷ us) (v ∷ vs) e = ap suc (follows_length u us vs (and_right (eqb v (u + left)) (follows u us vs) e))

-- what a row holds, column by column
abbrev Holds : List ℕ → (ℕ → ℕ) → Type 0
Holds row g = (k : ℕ) → k < length row → get_or row k 0 ≡ g k

-- the entry to the left of column k, where left stands before the row
abbrev before : ℕ → (ℕ → ℕ) → ℕ → ℕ
before left g zero = left
before left g (suc k) = g k

follows_holds : (left : ℕ) (g : ℕ → ℕ) (us vs : List ℕ) → follows left us vs ≡ true → Holds us g → Holds vs (λ k. g k + before left g k)
follows_holds left g [] [] e h k p = absurd (not-suc-le-zero p)
follows_holds left g [] (v ∷ vs) e h k p = absurd (true≢false (sym e))
follows_holds left g (u ∷ us) [] e h k p = absurd (true≢false (sym e))
follows_holds left g (u ∷ us) (v ∷ vs) e h zero p =
    eqb-true v (u + left) (and_left (eqb v (u + left)) (follows u us vs) e) ∙ ap (λ (m : ℕ). m + left) (h 0 (omega arith))
follows_holds left g (u ∷ us) (v ∷ vs) e h (suc k) p =
    follows_holds u (λ i. g (suc i)) us vs (and_right (eqb v (u + left)) (follows u us vs) e)
    (λ i q. h (suc i) (omega arith)) k (le_of_suc-le-suc p)
    ∙ ap (λ (m : ℕ). g (suc k) + m) (shifted k)
  where
    shifted : (k : ℕ) → before u (λ i. g (suc i)) k ≡ g k
    shifted zero = h 0 (omega arith)
    shifted (suc k) = refl

-- the rule takes a row of counts to the next
binom-before : (n k : ℕ) → binom n k + before 0 (binom n) k ≡ binom (suc n) k
binom-before n zero = omega (arith, binom-zero n, binom-zero (suc n))
binom-before n (suc k) = sym (binom-suc n k)

rows_hold : (m n : ℕ) (row rest : List ℕ) → rows m row rest ≡ true → length row ≡ sizes → Holds row (binom n) →
    (i k : ℕ) → i ≤ m → k ≤ max_size → get_or (row ++ rest) (sizes * i + k) 0 ≡ binom (n + i) k
rows_hold m n row rest e long h zero k p q =
    let at : sizes * 0 + k ≡ k = omega arith in
    ap (λ (j : ℕ). get_or (row ++ rest) j 0) at
    ∙ get_or-append row rest 0 k (omega arith)
    ∙ h k (omega arith)
    ∙ ap (λ (j : ℕ). binom j k) (sym (add-zero n))
rows_hold zero n row rest e long h (suc i) k p q = absurd (not-suc-le-zero p)
rows_hold (suc m) n row rest e long h (suc i) k p q =
    let next = take sizes rest in
    let more = drop sizes rest in
    let now : follows 0 row next ≡ true = and_left (follows 0 row next) (rows m next more) e in
    let at : length row + (sizes * i + k) ≡ sizes * suc i + k = omega arith in
    let shift : suc n + i ≡ n + suc i = omega arith in
    get_d_second row rest (sizes * suc i + k) (sizes * i + k) 0 at
    ∙ ap (λ (l : List ℕ). get_or l (sizes * i + k) 0) (sym (take-append-drop sizes rest))
    ∙ rows_hold m (suc n) next more (and_right (follows 0 row next) (rows m next more) e)
    (follows_length 0 row next now ∙ long)
    (λ j r. follows_holds 0 (binom n) row next now h j r ∙ binom-before n j)
    i k (le_of_suc-le-suc p) q
    ∙ ap (λ (j : ℕ). binom j k) shift

zeros_hold : (xs : List ℕ) → zeros xs ≡ true → Holds xs (λ k. 0)
zeros_hold [] e k p = absurd (not-suc-le-zero p)
zeros_hold (x ∷ xs) e zero p = eqb-true x 0 (and_left (eqb x 0) (zeros xs) e)
zeros_hold (x ∷ xs) e (suc k) p = zeros_hold xs (and_right (eqb x 0) (zeros xs) e) k (le_of_suc-le-suc p)

first_holds : (row : List ℕ) → first row ≡ true → (length row ≡ sizes) × Holds row (binom 0)
first_holds [] e = absurd (true≢false (sym e))
first_holds (x ∷ xs) e =
    let rest : (eqb (length xs) max_size && zeros xs) ≡ true = and_right (eqb x 1) (eqb (length xs) max_size && zeros xs) e in
    let one : x ≡ 1 = eqb-true x 1 (and_left (eqb x 1) (eqb (length xs) max_size && zeros xs) e) in
    let seven : length xs ≡ max_size = eqb-true (length xs) max_size (and_left (eqb (length xs) max_size) (zeros xs) rest) in
    (ap suc seven, holds one (zeros_hold xs (and_right (eqb (length xs) max_size) (zeros xs) rest)))
  where
    holds : x ≡ 1 → Holds xs (λ k. 0) → Holds (x ∷ xs) (binom 0)
    holds one none zero p = one ∙ sym (binom-zero 0)
    holds one none (suc k) p = none k (le_of_suc-le-suc p) ∙ sym (binom-none k)

pub pascal_counts : (table : List ℕ) → pascal table ≡ true → Counts table
unfolding Counts
pascal_counts table e n k p q =
    let row = take sizes table in
    let more = drop sizes table in
    let start = first_holds row (and_left (first row) (rows max_wires row more) e) in
    ap (λ (l : List ℕ). get_or l (sizes * n + k) 0) (sym (take-append-drop sizes table))
    ∙ rows_hold max_wires 0 row more (and_right (first row) (rows max_wires row more) e) start.0 start.1 n k p q
    ∙ ap (λ (j : ℕ). binom j k) (zero-add n)

abbrev pub next_row : ℕ → List ℕ → List ℕ
next_row left [] = []
next_row left (u ∷ us) = (u + left) ∷ next_row u us

abbrev pub row : ℕ → List ℕ
row zero = 1 ∷ replicate max_size 0
row (suc n) = next_row 0 (row n)

next_follows : (left : ℕ) (us : List ℕ) → follows left us (next_row left us) ≡ true
next_follows left [] = refl
next_follows left (u ∷ us) = rw (eq-eqb (u + left) (u + left) refl) (next_follows u us)

row_holds : (n : ℕ) → (length (row n) ≡ sizes) × Holds (row n) (binom n)
row_holds zero = first_holds (row 0) refl
row_holds (suc n) =
    let ih = row_holds n in
    let rule = next_follows 0 (row n) in (
      follows_length 0 (row n) (row (suc n)) rule ∙ ih.0,
      λ k p. follows_holds 0 (binom n) (row n) (row (suc n)) rule ih.1 k p ∙ binom-before n k,
    )

pub binom_row : (n k : ℕ) → k ≤ max_size → binom n k ≡ get_or (row n) k 0
binom_row n k p = sym ((row_holds n).1 k (omega (arith, (row_holds n).0)))
