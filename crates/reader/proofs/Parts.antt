-- The part of the text that computes a wire.
--     place_small                  the offset and length of a record are numbers of two bytes
--     PartStands, part-exactly     the check accepts exactly when each condition holds, and tells what the record says
--     part-numbers, parts-told     the numbers of the refusals, and what each answer tells
--     part-refused, part_given     what another answer makes of the same tests
--     part-told                    the part is the text's, by the offset and length that the check tells; refused, it is empty
--     start-told                   where it starts
use Rattle.std.specs.Prelude.{Ok, Err}
use Prim.Native.Nat.{ℕ, ◌+◌, ◌*◌, ◌%◌, ◌≤◌, ◌<◌}
use native.Mathlib.Omega.{arith}
use mathlib.Core.Path.{◌≡◌, refl, sym, ◌∙◌, ap₂}
use mathlib.Core.Logic.{◌↔◌}
use mathlib.Core.List.{List, [], ◌∷◌}
use lib.ListN.{length, take, drop, get_or}
use Rattle.limits.specs.Limits.{record_bytes, max_table_bytes}
use Rattle.basics.specs.Told.{values, refusal}
use Rattle.records.specs.Layout.{field, record_at, wire_count, offset_of, length_of}
use Rattle.records.proofs.Fields.{two_bytes, field_at, record_inside}
use Rattle.records.proofs.Bytes.{Bytes}
use Rattle.basics.proofs.Conditions.{Chain}
use Rattle.table.proofs.Conditions.{length-exactly}
use Rattle.reader.specs.Conditions.{part_conditions}
use Rattle.reader.proofs.Conditions.{part_chain, part_settled}
use Rattle.reader.specs.Answers.{part_refusal_number, part_told, part_checked, part_check, text_part, part_start}
use Rattle.reader.specs.declared.PartRefusal.{PartRefusal}

short-small : (table : List ℕ) (wire at : ℕ) → Bytes table → wire < wire_count table → at + 2 ≤ record_bytes → field at 2 (record_at table wire) < 65536
short-small table wire at bytes inside h =
    let r = record_inside table wire inside in
    let two = two_bytes table (record_bytes * wire + at) (get_or table (record_bytes * wire + at) 0) (get_or table (record_bytes * wire + at + 1) 0) (omega (arith, r, h)) refl refl in
    omega (arith, field_at table wire at 2 h, two, bytes (record_bytes * wire + at), bytes (record_bytes * wire + at + 1))

pub place_small : (table : List ℕ) (wire : ℕ) → Bytes table → wire < wire_count table
    → (offset_of (record_at table wire) < 65536) × (length_of (record_at table wire) < 65536)
place_small table wire bytes inside =
    (short-small table wire 20 bytes inside (omega arith), short-small table wire 22 bytes inside (omega arith))

-- a multiple of 24 bytes, up to 12,288; a wire of the table; the offset and length that its record says, and a part within the text
pub record PartStands (text table : List ℕ) (wire offset size : ℕ) : Type 0 where
  pub whole : length table % record_bytes ≡ 0
  pub short : length table ≤ max_table_bytes
  pub known : wire < wire_count table
  pub same-offset : offset ≡ offset_of (record_at table wire)
  pub same_size : size ≡ length_of (record_at table wire)
  pub inside : offset + size ≤ length text

module _ (text table : List ℕ) (wire : ℕ) where
  abbrev at : ℕ
  at = offset_of (record_at table wire)

  abbrev long : ℕ
  long = length_of (record_at table wire)

  pub part-exactly : (offset size : ℕ) → (part_check text table wire ≡ values (offset ∷ size ∷ [])) ↔ PartStands text table wire offset size
  part-exactly offset size = (there, back)
    where
      chain : Chain refusal (values (at ∷ long ∷ [])) (part_conditions text table wire) (part_check text table wire)
      chain = part_chain text table wire refusal (λ offset size. values (offset ∷ size ∷ []))

      there : part_check text table wire ≡ values (offset ∷ size ∷ []) → PartStands text table wire offset size
      there e =
          let none = (part_settled text table wire).answered.0 (offset ∷ size ∷ [], e) in
          let right = (length-exactly table).0 none.0 in
          let known : wire_count table ≤ wire → ⊥ = none.1.0 in
          let inside : length text < at + long → ⊥ = none.1.1.0 in
          let told = chain.none none in
          let o : offset ≡ at = cc in
          let s : size ≡ long = cc in
          record { whole = right.0; short = right.1; known = omega arith; same-offset = o; same_size = s; inside = omega arith }

      back : PartStands text table wire offset size → part_check text table wire ≡ values (offset ∷ size ∷ [])
      back h =
          chain.none ((length-exactly table).1 (h.whole, h.short), (λ l. omega arith, (λ l. omega arith, tt)))
          ∙ ap₂ (λ (o s : ℕ). values (o ∷ s ∷ [])) (sym h.same-offset) (sym h.same_size)

  -- what is made of the same tests by another answer
  module _ {A : Type 0} (refuse : ℕ → A) (part : ℕ → ℕ → A) where
    pub part-refused : (number : ℕ) → part_check text table wire ≡ refusal number → part_checked refuse part text table wire ≡ refuse number
    part-refused number e = (part_chain text table wire refuse part).first number (((part_settled text table wire).refused number).0 e)

    pub part_given : (offset size : ℕ) → part_check text table wire ≡ values (offset ∷ size ∷ [])
        → part_checked refuse part text table wire ≡ part offset size
    part_given offset size e =
        let s = (part-exactly offset size).0 e in
        (part_chain text table wire refuse part).none ((part_settled text table wire).answered.0 (offset ∷ size ∷ [], e))
        ∙ ap₂ part (sym s.same-offset) (sym s.same_size)

  pub part-told : ((number : ℕ) → part_check text table wire ≡ refusal number → text_part text table wire ≡ [])
      × ((offset size : ℕ) → part_check text table wire ≡ values (offset ∷ size ∷ []) → text_part text table wire ≡ take size (drop offset text))
  part-told = (
    part-refused (λ number. []) (λ offset size. take size (drop offset text)),
    part_given (λ number. []) (λ offset size. take size (drop offset text)),
  )

  pub start-told : ((number : ℕ) → part_check text table wire ≡ refusal number → part_start text table wire ≡ 0)
      × ((offset size : ℕ) → part_check text table wire ≡ values (offset ∷ size ∷ []) → part_start text table wire ≡ offset)
  start-told = (part-refused (λ number. 0) (λ offset size. offset), part_given (λ number. 0) (λ offset size. offset))

pub part-numbers : (part_refusal_number PartRefusal.TableLength ≡ 12) × (part_refusal_number PartRefusal.NoSuchWire ≡ 21)
    × (part_refusal_number PartRefusal.OutsideTheText ≡ 22)
part-numbers = (refl, refl, refl)

-- what each answer of the check tells
pub parts-told : ((offset size : ℕ) → part_told (Ok (record { offset = offset; length = size })) ≡ values (offset ∷ size ∷ []))
    × ((why : PartRefusal) → part_told (Err why) ≡ refusal (part_refusal_number why))
parts-told = (λ offset size. refl, λ why. refl)
