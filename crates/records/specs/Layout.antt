-- How a wire stands in a table (scope, "Wires"): records of 24 bytes with no header, numbers little-endian. Bytes 19 to 23 (output line,
-- offset and length in the text) have no part in what a wire is. The places of bytes stand as numbers here and nowhere above.
--     field at size r     the number of `size` bytes of a record, from byte `at` on
--     decode_terms         the terms of its four fields: products, masks, shares of a, shares of b
--     decode r            the wire that a record's 24 bytes are
--     outer_at, kind_of     the place and the byte of inner or outer
--     line_of, offset_of, length_of     what a record says of the text
--     record_at, wire_at    the record of a wire of a table, and the wire
--     wire_count, wires    how many wires a table has, and the wires in their order
--     inside              every wire of a set is one of the table's
--     terms_of             the terms that the code's sum of records stands for
--     no_sum, plus_sum      the sum of no records; two sums added bit by bit without carry
use Rattle.std.specs.Prelude.{ℕ, ◌+◌, ◌*◌, ◌/◌, Bool, ◌&&◌, List, map, eqb, ltb, length, take, drop}
use Rattle.std.specs.Int.Bits.{bit_xor}
use Rattle.limits.specs.Limits.{record_bytes}
use Rattle.basics.specs.Folds.{every, up_to}
use Rattle.wires.specs.Wires.{Terms, Wire}
use Rattle.records.specs.Words.{bit, number}
use Rattle.records.specs.declared.sums.Sum.{Sum}

abbrev pub field : ℕ → ℕ → List ℕ → ℕ
field at size r = number (take size (drop at r))

-- bytes 0 to 7, products, bit 8i + j for shares i of a and j of b; bytes 8 to 15, masks, bit k for mask k; byte 16, shares of a; byte 17, shares of b
abbrev pub decode_terms : ℕ → ℕ → ℕ → ℕ → Terms
decode_terms products masks a b =
    record { product = λ i j. ltb j 8 && bit products (8 * i + j); share_a = λ i. bit a i; share_b = λ j. bit b j; mask = λ k. bit masks k }

-- byte 18, 0 inner or 1 outer
abbrev pub outer_at : ℕ
outer_at = 18

abbrev pub kind_of : List ℕ → ℕ
kind_of = field outer_at 1

abbrev pub decode : List ℕ → Wire
decode r = record { terms = decode_terms (field 0 8 r) (field 8 8 r) (field 16 1 r) (field 17 1 r); outer = eqb (kind_of r) 1 }

-- byte 19, number of the output line from 0, 0 for inner; bytes 20 and 21, offset in the text; 22 and 23, length
abbrev pub line_of : List ℕ → ℕ
line_of = field 19 1

abbrev pub offset_of : List ℕ → ℕ
offset_of = field 20 2

abbrev pub length_of : List ℕ → ℕ
length_of = field 22 2

abbrev pub record_at : List ℕ → ℕ → List ℕ
record_at table wire = take record_bytes (drop (record_bytes * wire) table)

abbrev pub wire_at : List ℕ → ℕ → Wire
wire_at table wire = decode (record_at table wire)

abbrev pub wire_count : List ℕ → ℕ
wire_count table = length table / record_bytes

abbrev pub wires : List ℕ → List Wire
wires table = map (wire_at table) (up_to (wire_count table))

unfoldable pub inside : List ℕ → List ℕ → Bool
inside table set = every (λ wire. ltb wire (wire_count table)) set

abbrev pub terms_of : Sum → Terms
terms_of s = decode_terms s.products s.masks s.shares_a s.shares_b

abbrev pub no_sum : Sum
no_sum = record { products = 0; masks = 0; shares_a = 0; shares_b = 0 }

abbrev pub plus_sum : Sum → Sum → Sum
plus_sum s t = record {
  products = bit_xor s.products t.products;
  masks = bit_xor s.masks t.masks;
  shares_a = bit_xor s.shares_a t.shares_a;
  shares_b = bit_xor s.shares_b t.shares_b;
}
