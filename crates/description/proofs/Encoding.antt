-- What is encoded is decoded: the records of wires, and the wires of those records.
--     length-encode, length-records    the bytes of a record, and of so many
--     records-append                   the records of wires in two parts
--     Bounded                          the fields of a wire fit into the bytes of a record
--     encoded_outer, encoded_line, encoded_offset, encoded_length     what the record of a bounded wire says
--     decoded                          the record of a bounded wire is decoded to the wire
--     record_of_lem, record_count          the record at a place, and how many there are
use Prim.Native.Nat.{ℕ, zero, suc, ◌+◌, ◌*◌, ◌/◌, ◌<◌}
use native.Mathlib.Nat.{not-suc-le-zero, le_of_suc-le-suc}
use native.Mathlib.Omega.{arith}
use mathlib.Core.Path.{◌≡◌, refl, sym, ◌∙◌, ap, ap₂}
use mathlib.Core.Bool.{Bool}
use mathlib.Core.List.{List, [], ◌∷◌, ◌++◌, append_assoc}
use lib.ListN.{length, take, drop, get_or, length-append}
use lib.Seq.{take_at, drop-append-add}
use Rattle.limits.specs.Limits.{record_bytes}
use Rattle.basics.specs.Folds.{one_if}
use Rattle.wires.specs.Wires.{Terms}
use Rattle.records.specs.Layout.{decode, kind_of, line_of, offset_of, length_of, record_at, wire_count}
use Rattle.record_words.proofs.Encoding.{Fits, length_record, record_kind, record_line, record_offset, record_length, terms_decoded, outer_decoded}
use Rattle.description.specs.Listing.{encode, records_of, wire_of}
use Rattle.description.specs.declared.Listed.{Listed}

-- ---- lengths

pub length-encode : (w : Listed) → length (encode w) ≡ record_bytes
unfolding encode
length-encode w = length_record w.sum w.outer w.line w.offset w.length

pub length-records : (ws : List Listed) → length (records_of ws) ≡ record_bytes * length ws
length-records [] = refl
length-records (w ∷ ws) =
    let one = length-encode w in
    let rest = length-records ws in
    length-append (encode w) (records_of ws) ∙ omega (arith, one, rest)

pub records-append : (vs ws : List Listed) → records_of (vs ++ ws) ≡ records_of vs ++ records_of ws
records-append [] ws = refl
records-append (v ∷ vs) ws =
    ap {B = List ℕ} (λ l. encode v ++ l) (records-append vs ws) ∙ sym (append_assoc (encode v) (records_of vs) (records_of ws))

-- ---- the fields

pub record Bounded (w : Listed) : Type 0 where
  pub sum : Fits w.sum
  pub line : w.line < 256
  pub offset : w.offset < 65536
  pub length : w.length < 65536

pub encoded_outer : (w : Listed) → kind_of (encode w) ≡ one_if w.outer
unfolding encode
encoded_outer w = record_kind w.sum w.outer w.line w.offset w.length

module _ (w : Listed) (h : Bounded w) where
  pub encoded_line : line_of (encode w) ≡ w.line
  unfolding encode
  encoded_line = record_line w.sum w.outer w.line w.offset w.length h.line

  pub encoded_offset : offset_of (encode w) ≡ w.offset
  unfolding encode
  encoded_offset = record_offset w.sum w.outer w.line w.offset w.length h.offset

  pub encoded_length : length_of (encode w) ≡ w.length
  unfolding encode
  encoded_length = record_length w.sum w.outer w.line w.offset w.length h.length

  pub decoded : decode (encode w) ≡ wire_of w
  unfolding encode
  decoded =
      ap₂ (λ (t : Terms) (b : Bool). record { terms = t; outer = b })
      (terms_decoded w.sum w.outer w.line w.offset w.length h.sum)
      (outer_decoded w.sum w.outer w.line w.offset w.length)

-- ---- the records of a list

pub record_of_lem : (ws : List Listed) (k : ℕ) (d : Listed) → k < length ws → record_at (records_of ws) k ≡ encode (get_or ws k d)
record_of_lem [] k d h = absurd (not-suc-le-zero h)
record_of_lem (w ∷ ws) zero d h = take_at (encode w) (records_of ws) record_bytes (length-encode w)
record_of_lem (w ∷ ws) (suc k) d h =
    let one = length-encode w in
    let place : record_bytes * suc k ≡ length (encode w) + record_bytes * k = omega (arith, one) in
    ap (λ (n : ℕ). take record_bytes (drop n (encode w ++ records_of ws))) place ∙ ap (take record_bytes) (drop-append-add (encode w) (records_of ws) (record_bytes * k))
    ∙ record_of_lem ws k d (le_of_suc-le-suc h)

pub record_count : (ws : List Listed) → wire_count (records_of ws) ≡ length ws
record_count ws = let all = length-records ws in ap (λ (n : ℕ). n / record_bytes) all ∙ omega arith
