-- The words of the shares on which a sum depends: products folded to rows and to columns.
--     or_double, gather_bits         a word united with itself shifted, three times: eight bits a stride apart
--     marks                          of the eight bits 7 apart from place i on, the i-th alone stands at a multiple of 8
--     rows_bits, columns_bits        the rows and the columns that have a product
--     row_products, column_products     the products of a record, by row and by column
--     seen_bits, seen_ones           the shares on which a sum depends, and their number
--     ones_hold, ones_read, seen-count     the same by a table of ones
use Prim.Native.Nat.{ℕ, ◌+◌, ◌*◌, ◌/◌, ◌%◌, ◌^◌, ◌<◌}
use native.Mathlib.Nat.{mul-add, mul_comm}
use native.Mathlib.Omega.{arith}
use mathlib.Core.Path.{◌≡◌, refl, sym, ◌∙◌, ap, ap₂}
use mathlib.Core.Bool.{Bool, true, false, cond, not, ◌&&◌, ◌||◌, xor, or_assoc, or-false}
use mathlib.Core.List.{List}
use borrow.Author.Tests.{not-true, eqb-true}
use lib.Bits.{bit_and, bit_or}
use lib.Count.{ones}
use lib.Dec.{eqb, ltb}
use lib.ListN.{get_or}
use Rattle.limits.specs.Limits.{max_shares}
use Rattle.basics.specs.Folds.{some, every, one_if, up_to}
use Rattle.basics.proofs.Tests.{xor_same, and-cond}
use Rattle.basics.proofs.Folds.{fold_cong, fold-below, fold_pick, fold_split, every_at}
use Rattle.wires.specs.Wires.{Terms, depends_a, count_a}
use Rattle.records.specs.Words.{bit}
use Rattle.records.specs.Layout.{decode_terms}
use Rattle.shares.specs.Ones.{Ones}
use Rattle.records.proofs.Words.{bit-or, bit-and, bit-low, or-fold, ones_count}
use Rattle.records.proofs.Bytes.{within_row}

-- c bits a stride s apart become 2 c
or_double : (p w s c d : ℕ) → d ≡ s * c → ((k : ℕ) → bit w k ≡ some (λ j. bit p (s * j + k)) (up_to c))
    → (k : ℕ) → bit (bit_or w (w / 2 ^ d)) k ≡ some (λ j. bit p (s * j + k)) (up_to (c + c))
or_double p w s c d e h k =
    or-fold w d k ∙ ap₂ (λ (a b : Bool). a || b) (h k) (h (d + k))
    ∙ ap (λ (b : Bool). some (λ j. bit p (s * j + k)) (up_to c) || b)
    (fold_cong ◌||◌ false (λ j. bit p (s * j + (d + k))) (λ j. bit p (s * (c + j) + k)) (up_to c) (λ j. ap (bit p) (moved j)))
    ∙ sym (fold_split ◌||◌ false (λ b. refl) or_assoc c c (λ j. bit p (s * j + k)))
  where
    moved : (j : ℕ) → s * j + (d + k) ≡ s * (c + j) + k
    moved j = let m : s * (c + j) ≡ s * c + s * j = mul-add s c j in omega (arith, m, e)

pub gather_bits : (w s : ℕ) → let two = bit_or w (w / 2 ^ s) in let four = bit_or two (two / 2 ^ (2 * s)) in
    (k : ℕ) → bit (bit_or four (four / 2 ^ (4 * s))) k ≡ some (λ j. bit w (s * j + k)) (up_to 8)
unfolding up_to
gather_bits w s =
    let two = bit_or w (w / 2 ^ s) in
    let four = bit_or two (two / 2 ^ (2 * s)) in
    let one : s ≡ s * 1 = omega arith in
    or_double w four s 4 (4 * s) (mul_comm 4 s) (or_double w two s 2 (2 * s) (mul_comm 2 s) (or_double w w s 1 s one first))
  where
    first : (k : ℕ) → bit w k ≡ some (λ j. bit w (s * j + k)) (up_to 1)
    first k = let e : k ≡ s * 0 + k = omega arith in ap (bit w) e ∙ sym (or-false (bit w (s * 0 + k)))

marks : (i s : ℕ) → i < 8 → s < 8 → bit 0x0101010101010101 (7 * s + i) ≡ eqb s i
unfolding bit up_to xor
marks i s h l =
    let all : every (λ i. every (λ s. not (xor (bit 0x0101010101010101 (7 * s + i)) (eqb s i))) (up_to 8)) (up_to 8) ≡ true = refl in
    xor_same (bit 0x0101010101010101 (7 * s + i)) (eqb s i)
    (not-true (xor (bit 0x0101010101010101 (7 * s + i)) (eqb s i))
    (every_at 8 s (λ s. not (xor (bit 0x0101010101010101 (7 * s + i)) (eqb s i)))
    (every_at 8 i (λ i. every (λ s. not (xor (bit 0x0101010101010101 (7 * s + i)) (eqb s i))) (up_to 8)) all h) l))

pub rows_bits : (p g h : ℕ) → ((k : ℕ) → bit g k ≡ some (λ j. bit p (1 * j + k)) (up_to 8))
    → ((k : ℕ) → bit h k ≡ some (λ s. bit (bit_and g 0x0101010101010101) (7 * s + k)) (up_to 8))
    → (i : ℕ) → i < max_shares → bit (h % 256) i ≡ some (λ j. bit p (8 * i + j)) (up_to max_shares)
rows_bits p g h eg eh i l =
    bit-low h 8 i l ∙ eh i
    ∙ fold-below ◌||◌ false 8 (λ s. bit (bit_and g 0x0101010101010101) (7 * s + i)) (λ s. cond (eqb s i) (bit g (7 * s + i)) false)
    (λ s k. bit-and g 0x0101010101010101 (7 * s + i) ∙ ap (λ (b : Bool). bit g (7 * s + i) && b) (marks i s l k)
    ∙ and-cond (bit g (7 * s + i)) (eqb s i))
    ∙ fold_pick ◌||◌ false (λ b. refl) or-false 8 i (λ s. bit g (7 * s + i)) l
    ∙ eg (7 * i + i)
    ∙ fold_cong ◌||◌ false (λ j. bit p (1 * j + (7 * i + i))) (λ j. bit p (8 * i + j)) (up_to 8)
    (λ j. let e : 1 * j + (7 * i + i) ≡ 8 * i + j = omega arith in ap (bit p) e)

pub columns_bits : (p g : ℕ) → ((k : ℕ) → bit g k ≡ some (λ i. bit p (8 * i + k)) (up_to 8)) → (j : ℕ) → j < max_shares
    → bit (g % 256) j ≡ some (λ i. bit p (8 * i + j)) (up_to max_shares)
columns_bits p g eg j l = bit-low g 8 j l ∙ eg j

pub row_products : (p m a b i : ℕ) → some (λ j. bit p (8 * i + j)) (up_to max_shares) ≡ some ((decode_terms p m a b).product i) (up_to max_shares)
row_products p m a b i =
    sym (fold-below ◌||◌ false max_shares (λ j. ltb j 8 && bit p (8 * i + j)) (λ j. bit p (8 * i + j)) (λ j h. within_row j (bit p (8 * i + j)) h))

pub column_products : (p m a b j : ℕ) → j < max_shares → some (λ i. bit p (8 * i + j)) (up_to max_shares) ≡ some (λ i. (decode_terms p m a b).product i j) (up_to max_shares)
column_products p m a b j h =
    sym (fold_cong ◌||◌ false (λ i. ltb j 8 && bit p (8 * i + j)) (λ i. bit p (8 * i + j)) (up_to max_shares) (λ i. within_row j (bit p (8 * i + j)) h))

pub seen_bits : (t : Terms) (w v b i : ℕ) → bit w i ≡ some (t.product i) (up_to max_shares) → v ≡ b → bit b i ≡ t.share_a i
    → bit (bit_or w v) i ≡ depends_a max_shares t i
seen_bits t w v b i ew ev eb = bit-or w v i ∙ ap₂ (λ (x y : Bool). x || y) ew (ap (λ (x : ℕ). bit x i) ev ∙ eb)

pub seen_ones : (t : Terms) (w : ℕ) → w < 2 ^ max_shares → ((i : ℕ) → i < max_shares → bit w i ≡ depends_a max_shares t i) → ones w ≡ count_a max_shares t
unfolding count_a
seen_ones t w h e = ones_count max_shares w h ∙ fold-below ◌+◌ 0 max_shares (λ i. one_if (bit w i)) (λ i. one_if (depends_a max_shares t i)) (λ i l. ap one_if (e i l))

-- ---- the table of ones

-- each place holds how many ones its number has, by a test over the whole table that antt computes
abbrev pub holds_ones : List ℕ → Bool
holds_ones table = every (λ w. eqb (get_or table w 0) (ones w)) (up_to (2 ^ max_shares))

pub ones_hold : (table : List ℕ) → holds_ones table ≡ true → Ones table
unfolding Ones
ones_hold table e w h = eqb-true (get_or table w 0) (ones w) (every_at (2 ^ max_shares) w (λ w. eqb (get_or table w 0) (ones w)) e h)

pub ones_read : (table : List ℕ) (w : ℕ) → Ones table → w < 2 ^ max_shares → get_or table w 0 ≡ ones w
unfolding Ones
ones_read table w all h = all w h

-- a count that was looked up is that of the shares
pub seen-count : (t : Terms) (w r : ℕ) → r ≡ ones w → w < 2 ^ max_shares → ((i : ℕ) → i < max_shares → bit w i ≡ depends_a max_shares t i) → r ≡ count_a max_shares t
seen-count t w r e h bits = e ∙ seen_ones t w h bits
