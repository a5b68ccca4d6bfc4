-- What an answer of reading says of the text's grammar (demand 2: a text is read into just the wires that its grammar gives it).
--     Readable         the text spells a description within the limits, and the lent table has room for its wires
--     Given            what a text that was read gives: the order, shares, mask count, wires and their parts of the description that it spells
--     ReadsGrammar     read exactly when the text is readable, what is then given, and that the operations on a table accept it
use Rattle.std.specs.Prelude.{ℕ, ◌+◌, ◌*◌, ◌≤◌, ◌≡◌, ◌↔◌, List, [], ◌∷◌, ◌++◌, map, length, take, Result, Ok, Err}
use Rattle.limits.specs.Limits.{max_wires, record_bytes}
use Rattle.basics.specs.Told.{values}
use Rattle.records.specs.Layout.{wires}
use Rattle.table.specs.Answers.{table_check}
use Rattle.description.specs.Listing.{records_of, wire_of}
use Rattle.description.specs.Grammar.{Description, Spells, Limits, wires_of, mask_count}
use Rattle.description.specs.declared.Fault.{Fault}
use Rattle.description.specs.declared.Listed.{Listed}
use Rattle.reader.specs.Answers.{part_check}
use Rattle.scratch_reader.specs.declared.Reading.{Reading as Figures}

pub record Readable (text : List ℕ) (room : ℕ) : Type 0 where
  pub description : Description
  pub spells : Spells text description
  pub limits : Limits text description
  pub few-wires : length (wires_of description) ≤ max_wires
  pub table_room : record_bytes * length (wires_of description) ≤ room

-- the description's records stand in the table; to the operations on a table they are its wires, and to the check of a text part its parts
pub record Given (text : List ℕ) (d : Description) (order shares masks count : ℕ) (held : List ℕ) : Type 0 where
  pub same-order : order ≡ d.order
  pub same_shares : shares ≡ d.order + 1
  pub same-masks : masks ≡ mask_count d.names
  pub same_count : count ≡ length (wires_of d)
  pub same-records : take (record_bytes * count) held ≡ records_of (wires_of d)
  pub same-wires : wires (take (record_bytes * count) held) ≡ map wire_of (wires_of d)
  pub same_parts : (before after : List Listed) (w : Listed) → wires_of d ≡ before ++ w ∷ after
      → part_check text (take (record_bytes * count) held) (length before) ≡ values (w.offset ∷ w.length ∷ [])

pub record ReadsGrammar (answer : Result Figures Fault) (text : List ℕ) (room : ℕ) (held : List ℕ) : Type 0 where
  pub read-exactly : ((fault : Fault) → answer ≡ Err fault → ⊥) ↔ Readable text room
  pub read-gives : (r : Figures) → answer ≡ Ok r → (d : Description) → Spells text d
      → Given text d r.order r.shares r.masks r.wires held
  -- the tests of every operation on a table accept it
  pub read-passes : (r : Figures) → answer ≡ Ok r
      → table_check (take (record_bytes * r.wires) held) r.shares r.masks ≡ values []
