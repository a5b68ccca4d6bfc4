-- What stands in which byte of a record, and which records a table has.
--     Bytes                             every number of a list is a byte
--     number_bit                        bit 8 i + j of a little-endian number is bit j of byte i
--     within_row                        a product's column is one of a row's
--     product_at, mask_at_lem, share_a_at, share_b_at, outer_at_lem     the terms of a record and its flag, byte by byte
--     wires-none, wires_more            the wires of a table: none, or that of the first record and those of the rest
--     inside-none, inside_more          the empty set, and one wire more
--     inside-exactly                    every wire of a set is one of the table's
use Prim.Native.Nat.{ℕ, zero, suc, ◌+◌, ◌*◌, ◌/◌, ◌%◌, ◌<◌, suc-le-suc}
use native.Mathlib.Nat.{mod-lt, zero-lt-suc, zero-add}
use native.Mathlib.Omega.{arith}
use mathlib.Core.Path.{◌≡◌, refl, sym, ◌∙◌, ap, ap₂, subst}
use mathlib.Core.Logic.{◌↔◌}
use mathlib.Core.Bool.{Bool, true, ◌&&◌}
use mathlib.Core.List.{List, [], ◌∷◌, ◌++◌, map}
use borrow.Author.Tests.{lt-ltb}
use lib.Dec.{eqb, ltb}
use lib.ListN.{length, take, drop, get_or, length-append}
use lib.Seq.{get_or-take, get_or-drop, drop-append-add, take_at}
use Rattle.limits.specs.Limits.{max_shares, max_masks, record_bytes}
use Rattle.basics.specs.Folds.{every, up_to}
use Rattle.basics.proofs.Tests.{and_both}
use Rattle.wires.specs.Wires.{Wire}
use Rattle.records.specs.Words.{bit, number}
use Rattle.records.specs.Layout.{field, decode, wire_at, wire_count, wires, inside}
use Rattle.records.proofs.Words.{bit-zero, bit_shift, bit-low}
use Rattle.records.proofs.Fields.{byte_at}
use Rattle.records.proofs.Adding.{set-inside}

-- every number of a list is a byte
abbrev pub Bytes : List ℕ → Type 0
Bytes l = (i : ℕ) → get_or l i 0 < 256

pub number_bit : (l : List ℕ) → Bytes l → (i j : ℕ) → j < 8 → bit (number l) (8 * i + j) ≡ bit (get_or l i 0) j
number_bit [] h i j k = bit-zero (8 * i + j) ∙ sym (bit-zero j)
number_bit (b ∷ l) h zero j k =
    let low : (b + 256 * number l) % 256 ≡ b = omega (arith, h 0) in
    let place : 8 * 0 + j ≡ j = omega arith in
    ap (bit (b + 256 * number l)) place ∙ sym (bit-low (b + 256 * number l) 8 j k) ∙ ap (λ (x : ℕ). bit x j) low
number_bit (b ∷ l) h (suc i) j k =
    let high : (b + 256 * number l) / 256 ≡ number l = omega (arith, h 0) in
    let place : 8 * suc i + j ≡ 8 + (8 * i + j) = omega arith in
    ap (bit (b + 256 * number l)) place ∙ sym (bit_shift (b + 256 * number l) 8 (8 * i + j)) ∙ ap (λ (x : ℕ). bit x (8 * i + j)) high
    ∙ number_bit l (λ n. h (suc n)) i j k

bytes_take : (n : ℕ) (l : List ℕ) → Bytes l → Bytes (take n l)
bytes_take zero l h i = zero-lt-suc 255
bytes_take (suc n) [] h i = zero-lt-suc 255
bytes_take (suc n) (x ∷ l) h zero = h 0
bytes_take (suc n) (x ∷ l) h (suc i) = bytes_take n l (λ k. h (suc k)) i

bytes_drop : (n : ℕ) (l : List ℕ) → Bytes l → Bytes (drop n l)
bytes_drop n l h i = subst (λ (x : ℕ). x < 256) (sym (get_or-drop n l i 0)) (h (n + i))

-- a field of eight bytes, bit by bit
field-bit : (at : ℕ) (r : List ℕ) → Bytes r → (i j : ℕ) → i < 8 → j < 8 → bit (field at 8 r) (8 * i + j) ≡ bit (get_or r (at + i) 0) j
field-bit at r h i j k l =
    number_bit (take 8 (drop at r)) (bytes_take 8 (drop at r) (bytes_drop at r h)) i j l
    ∙ ap (λ (x : ℕ). bit x j) (get_or-take 8 (drop at r) i 0 k ∙ get_or-drop at r i 0)

-- a product's column is one of a row's
pub within_row : (j : ℕ) (b : Bool) → j < 8 → (ltb j 8 && b) ≡ b
within_row j b h = ap (λ (c : Bool). c && b) (lt-ltb j 8 h)

module _ (r : List ℕ) (h : Bytes r) where
  pub product_at : (i j : ℕ) → i < max_shares → j < max_shares → (decode r).terms.product i j ≡ bit (get_or r i 0) j
  product_at i j k l =
      within_row j (bit (field 0 8 r) (8 * i + j)) l ∙ field-bit 0 r h i j k l ∙ ap (λ (x : ℕ). bit (get_or r x 0) j) (zero-add i)

  pub mask_at_lem : (k : ℕ) → k < max_masks → (decode r).terms.mask k ≡ bit (get_or r (8 + k / 8) 0) (k % 8)
  mask_at_lem k l =
      let place : k ≡ 8 * (k / 8) + k % 8 = omega arith in
      let row : k / 8 < 8 = omega arith in
      ap (bit (field 8 8 r)) place ∙ field-bit 8 r h (k / 8) (k % 8) row (mod-lt k (zero-lt-suc 7))

module _ (r : List ℕ) (whole : length r ≡ record_bytes) where
  pub share_a_at : (i : ℕ) → (decode r).terms.share_a i ≡ bit (get_or r 16 0) i
  share_a_at i = ap (λ (x : ℕ). bit x i) (byte_at r 16 (omega (arith, whole)))

  pub share_b_at : (j : ℕ) → (decode r).terms.share_b j ≡ bit (get_or r 17 0) j
  share_b_at j = ap (λ (x : ℕ). bit x j) (byte_at r 17 (omega (arith, whole)))

  pub outer_at_lem : (decode r).outer ≡ eqb (get_or r 18 0) 1
  outer_at_lem = ap (λ (x : ℕ). eqb x 1) (byte_at r 18 (omega (arith, whole)))

pub wires-none : wires [] ≡ []
unfolding up_to
wires-none = refl

pub wires_more : (r t : List ℕ) → length r ≡ record_bytes → wires (r ++ t) ≡ decode r ∷ wires t
unfolding up_to
wires_more r t e =
    let count : wire_count (r ++ t) ≡ suc (wire_count t) = ap (λ (n : ℕ). n / record_bytes) (length-append r t) ∙ omega (arith, e) in
    ap (λ (n : ℕ). map (wire_at (r ++ t)) (up_to n)) count
    ∙ ap₂ {C = List Wire} (λ w s. w ∷ s) (ap decode (take_at r t record_bytes e)) (rest (up_to (wire_count t)))
  where
    moved : (w : ℕ) → wire_at (r ++ t) (suc w) ≡ wire_at t w
    moved w =
        let place : record_bytes * suc w ≡ length r + record_bytes * w = omega (arith, e) in
        ap (λ (n : ℕ). decode (take record_bytes (drop n (r ++ t)))) place ∙ ap (λ l. decode (take record_bytes l)) (drop-append-add r t (record_bytes * w))

    rest : (l : List ℕ) → map (wire_at (r ++ t)) (map suc l) ≡ map (wire_at t) l
    rest [] = refl
    rest (w ∷ l) = ap₂ {C = List Wire} (λ x s. x ∷ s) (moved w) (rest l)

pub inside-exactly : (table set : List ℕ) → (inside table set ≡ true) ↔ ((i : ℕ) → i < length set → get_or set i 0 < wire_count table)
unfolding inside
inside-exactly table set = (λ e i h. set-inside table set i e h, back table set)
  where
    back : (table set : List ℕ) → ((i : ℕ) → i < length set → get_or set i 0 < wire_count table) → inside table set ≡ true
    back table [] h = refl
    back table (w ∷ set) h =
        and_both (ltb w (wire_count table)) (every (λ w. ltb w (wire_count table)) set) (lt-ltb w (wire_count table) (h 0 (zero-lt-suc (length set))))
        (back table set (λ i k. h (suc i) (suc-le-suc k)))

pub inside-none : (table : List ℕ) → inside table [] ≡ true
unfolding inside
inside-none table = refl

pub inside_more : (table set : List ℕ) (w : ℕ) → w < wire_count table → inside table set ≡ true → inside table (w ∷ set) ≡ true
unfolding inside
inside_more table set w h e = and_both (ltb w (wire_count table)) (every (λ w. ltb w (wire_count table)) set) (lt-ltb w (wire_count table) h) e
