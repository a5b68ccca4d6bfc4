-- What is written into a record is what is read of it.
--     length_record                    a record has as many bytes as it must
--     number-bytes                     a number below 256 ^ size is that of its bytes
--     Fits                             the words of a sum fit into the bytes of a record
--     none-fits, plus-fits, symbol-fits     the sum of no records, of two sums, of a symbol
--     kind_low                         the byte of inner or outer is 0 or 1
--     record_kind, record_line, record_offset, record_length     what a record says
--     terms_decoded, outer_decoded     the terms of a record, and whether it is that of an outer wire
--     made_outer_lem                       a record whose wire is made the outer one of a line
use Prim.Native.Nat.{ℕ, zero, suc, ◌/◌, ◌^◌, ◌≤◌, ◌<◌}
use native.Mathlib.Omega.{arith}
use mathlib.Core.Path.{◌≡◌, refl, ◌∙◌, ap, ap₂}
use mathlib.Core.Bool.{Bool, true, false}
use mathlib.Core.List.{List}
use lib.Bits.{xor_lt}
use lib.Dec.{eqb}
use lib.ListN.{length}
use lib.Pow.{pow-lt}
use lib.Seq.{sets}
use Rattle.limits.specs.Limits.{record_bytes}
use Rattle.basics.specs.Folds.{one_if}
use Rattle.wires.specs.declared.Symbol.{Symbol}
use Rattle.wires.specs.declared.Symbol.TheVariants.{Product, ShareA, ShareB, Mask}
use Rattle.records.specs.declared.sums.Sum.{Sum}
use Rattle.records.specs.Words.{number, bytes_of}
use Rattle.records.specs.Layout.{field, decode_terms, decode, outer_at, kind_of, line_of, offset_of, length_of, terms_of, no_sum, plus_sum}
use Rattle.record_words.specs.Symbols.{symbol_sum, Small}
use Rattle.record_words.specs.Writing.{record_of, outer_bytes}

pub number-bytes : (size n : ℕ) → n < 256 ^ size → number (bytes_of size n) ≡ n
number-bytes zero n h = omega (arith, h)
number-bytes (suc size) n h =
    let upper = number-bytes size (n / 256) (omega (arith, h)) in
    omega (arith, upper)

-- ---- sums

pub record Fits (s : Sum) : Type 0 where
  products : s.products < 2 ^ 64
  masks : s.masks < 2 ^ 64
  of_a : s.shares_a < 2 ^ 8
  of_b : s.shares_b < 2 ^ 8

pub none-fits : Fits no_sum
none-fits = record { products = omega arith; masks = omega arith; of_a = omega arith; of_b = omega arith }

pub plus-fits : (s t : Sum) → Fits s → Fits t → Fits (plus_sum s t)
plus-fits s t a b = record {
  products = xor_lt 64 s.products t.products a.products b.products;
  masks = xor_lt 64 s.masks t.masks a.masks b.masks;
  of_a = xor_lt 8 s.shares_a t.shares_a a.of_a b.of_a;
  of_b = xor_lt 8 s.shares_b t.shares_b a.of_b b.of_b;
}

pub symbol-fits : (s : Symbol) → Small s → Fits (symbol_sum s)
symbol-fits (Product i j) h =
    record { products = pow-lt {j = 64} (omega (arith, h.0, h.1)); masks = omega arith; of_a = omega arith; of_b = omega arith }
symbol-fits (ShareA i) h = record { products = omega arith; masks = omega arith; of_a = pow-lt {j = 8} h; of_b = omega arith }
symbol-fits (ShareB j) h = record { products = omega arith; masks = omega arith; of_a = omega arith; of_b = pow-lt {j = 8} h }
symbol-fits (Mask k) h = record { products = omega arith; masks = pow-lt {j = 64} h; of_a = omega arith; of_b = omega arith }

-- ---- records

pub kind_low : (b : Bool) → one_if b ≤ 1
kind_low true = omega arith
kind_low false = omega arith

module _ (s : Sum) (outer : Bool) (line offset size : ℕ) where
  abbrev r : List ℕ
  r = record_of s outer line offset size

  pub length_record : length (record_of s outer line offset size) ≡ record_bytes
  length_record = refl

  pub record_kind : kind_of (record_of s outer line offset size) ≡ one_if outer
  record_kind = number-bytes 1 (one_if outer) (omega (arith, kind_low outer))

  pub record_line : line < 256 → line_of (record_of s outer line offset size) ≡ line
  record_line h = number-bytes 1 line h

  pub record_offset : offset < 65536 → offset_of (record_of s outer line offset size) ≡ offset
  record_offset h = number-bytes 2 offset h

  pub record_length : size < 65536 → length_of (record_of s outer line offset size) ≡ size
  record_length h = number-bytes 2 size h

  pub terms_decoded : Fits s → (decode (record_of s outer line offset size)).terms ≡ terms_of s
  terms_decoded h =
      ap₂ (λ (p m : ℕ). decode_terms p m (field 16 1 r) (field 17 1 r)) (number-bytes 8 s.products h.products)
      (number-bytes 8 s.masks h.masks)
      ∙ ap₂ (λ (a b : ℕ). decode_terms s.products s.masks a b) (number-bytes 1 s.shares_a h.of_a)
      (number-bytes 1 s.shares_b h.of_b)

  pub outer_decoded : (decode (record_of s outer line offset size)).outer ≡ outer
  outer_decoded = ap (λ (n : ℕ). eqb n 1) record_kind ∙ told outer
    where
      told : (b : Bool) → eqb (one_if b) 1 ≡ b
      told true = refl
      told false = refl

  pub made_outer_lem : (line' : ℕ) → sets (record_of s outer line offset size) outer_at (outer_bytes line') ≡ record_of s true line' offset size
  made_outer_lem line' = refl
