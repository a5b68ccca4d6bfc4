-- Each answer of `reader` in the scope's own numbers, and what each entry answers (scope, "Wires" and "What each operation turns down").
--     ReadTold            the values of a text that was read, or the number and byte offset of a refusal
--     ReadLent            what is told, with what the lent table then holds
--     read_told            what the code's answer tells
--     too_large            refusal 10 where a table is lent
--     lent_reading, read_text     what reading is to tell, and what the lent table then holds
--     part_refusal_number, part_told     the numbers of a text part's refusals, and what its answer tells
--     part_checked, part_check          what the check of a text part is to tell: the offset and length, or the refusal
--     text_part            the part of the text, empty where it is refused
--     part_start           where in the text the part starts; an empty part stands at the text's start
use Rattle.std.specs.Prelude.{ℕ, ◌+◌, ◌*◌, Bool, cond, ◌||◌, List, [], ◌∷◌, ◌++◌, ltb, leb, length, take, drop, Result, Ok, Err}
use Rattle.limits.specs.Limits.{max_wires, record_bytes}
use Rattle.basics.specs.Told.{Told, values, refusal}
use Rattle.records.specs.Layout.{record_at, wire_count, offset_of, length_of}
use Rattle.table.specs.Answers.{wrong_length}
use Rattle.description.specs.Listing.{records_of}
use Rattle.description.specs.Run.{refusal_number, Reading, read, turned_down, reading}
use Rattle.description.specs.declared.Fault.{Fault}
use Rattle.scratch_reader.specs.declared.Reading.{Reading as Figures}
use Rattle.reader.specs.declared.PartRefusal.{PartRefusal}
use Rattle.reader.specs.declared.Part.{Part}

pub data ReadTold : Type 0 where
  gives : (order shares masks wires : ℕ) → ReadTold
  refused : (number offset : ℕ) → ReadTold

pub record ReadLent : Type 0 where
  pub told : ReadTold
  pub held : List ℕ

abbrev pub read_told : Result Figures Fault → List ℕ → ReadLent
read_told (Ok r) held = record { told = gives r.order r.shares r.masks r.wires; held = held }
read_told (Err fault) held = record { told = refused (refusal_number fault.why) fault.offset; held = held }

-- 10: over 512 wires or lent table too short
abbrev pub too_large : List ℕ → ℕ → Bool
too_large table wires = ltb max_wires wires || ltb (length table) (record_bytes * wires)

-- reading answers order, shares, mask count and wire count, and writes nothing past the last record; a refusal alters nothing
abbrev pub lent_reading : List ℕ → List ℕ → Reading → ReadLent
lent_reading text table (turned_down why offset) = record { told = refused (refusal_number why) offset; held = table }
lent_reading text table (read order masks ws) =
    cond (too_large table (length ws))
    (record { told = refused 10 (length text); held = table })
    (record { told = gives order (order + 1) masks (length ws); held = records_of ws ++ drop (record_bytes * length ws) table })

abbrev pub read_text : List ℕ → List ℕ → ReadLent
read_text text table = lent_reading text table (reading text)

-- ---- the text part

abbrev pub part_refusal_number : PartRefusal → ℕ
part_refusal_number PartRefusal.TableLength = 12
part_refusal_number PartRefusal.NoSuchWire = 21
part_refusal_number PartRefusal.OutsideTheText = 22

abbrev pub part_told : Result Part PartRefusal → Told
part_told (Ok part) = values (part.offset ∷ part.length ∷ [])
part_told (Err why) = refusal (part_refusal_number why)

-- of the table's tests 12 alone, then 21 for a wire beyond the table, 22 for a part outside the text
abbrev pub part_checked : {A : Type 0} → (ℕ → A) → (ℕ → ℕ → A) → List ℕ → List ℕ → ℕ → A
part_checked refuse part text table wire =
    cond (wrong_length table) (refuse 12)
    (cond (leb (wire_count table) wire) (refuse 21)
    (cond (ltb (length text) (offset_of (record_at table wire) + length_of (record_at table wire))) (refuse 22)
    (part (offset_of (record_at table wire)) (length_of (record_at table wire)))))

abbrev pub part_check : List ℕ → List ℕ → ℕ → Told
part_check = part_checked refusal (λ offset size. values (offset ∷ size ∷ []))

-- by offset and length; refused, the part is empty
abbrev pub text_part : List ℕ → List ℕ → ℕ → List ℕ
text_part text = part_checked (λ number. []) (λ offset size. take size (drop offset text)) text

abbrev pub part_start : List ℕ → List ℕ → ℕ → ℕ
part_start = part_checked (λ number. 0) (λ offset size. offset)
