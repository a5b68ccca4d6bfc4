-- What the answer says, in the words of the other entries: "The figures are reading's and the set counts' own; a text that reading turns down gets its
-- number and offset, 10 here only for over 512 wires."
--     OverMany     the text spells a description within the limits, of more than 512 wires
--     Figures      reading gives these figures, into every table of so many bytes and into none that is shorter; the set count tells these numbers of sets
--     Refuses      reading refuses with this number and offset, whatever the table
--     SizeSays     what each answer says
use Rattle.std.specs.Prelude.{ℕ, ◌-◌, ◌≤◌, ◌<◌, ◌≡◌, ◌↔◌, List, [], ◌∷◌, length, get_or, Result, Ok, Err}
use Rattle.limits.specs.Limits.{max_order, max_wires}
use Rattle.basics.specs.Told.{values}
use Rattle.sets.specs.Answers.{set_count}
use Rattle.description.specs.Run.{refusal_number}
use Rattle.description.specs.Grammar.{Description, Spells, Limits, wires_of}
use Rattle.reader.specs.Answers.{gives, refused, read_text}
use Rattle.description.specs.declared.Fault.{Fault}
use Rattle.plan_text.specs.declared.CheckSize.{CheckSize}
use Rattle.plan_text.specs.Answers.{size_told}

pub record OverMany (text : List ℕ) : Type 0 where
  pub description : Description
  pub spells : Spells text description
  pub limits : Limits text description
  pub many : max_wires < length (wires_of description)

pub record Figures (text sets : List ℕ) (order shares masks wires bytes : ℕ) : Type 0 where
  -- the figures are reading's, and the table's bytes are just those that reading needs
  pub reads : (table : List ℕ) → bytes ≤ length table → (read_text text table).told ≡ gives order shares masks wires
  pub short : (table : List ℕ) → length table < bytes → (read_text text table).told ≡ refused 10 (length text)
  -- the numbers of sets are the set count's, of size k at k - 1
  pub counts : (size : ℕ) → 1 ≤ size → size ≤ order → set_count wires size ≡ values (get_or sets (size - 1) 0 ∷ [])

pub record Refuses (text : List ℕ) (number offset : ℕ) : Type 0 where
  pub whatever : (table : List ℕ) → (read_text text table).told ≡ refused number offset
  pub ten : (number ≡ 10) ↔ OverMany text

abbrev pub SizeSays : Result CheckSize Fault → List ℕ → Type 0
SizeSays (Ok size) text =
    Figures text size.sets size.order size.shares size.masks size.wires size.bytes
    × (length size.sets ≡ max_order)
    × ((k : ℕ) → size.order ≤ k → get_or size.sets k 0 ≡ 0)
SizeSays (Err fault) text =
    Refuses text (refusal_number fault.why) fault.offset
    × (length (size_told (Err fault)).sets ≡ max_order)
    × ((k : ℕ) → get_or (size_told (Err fault)).sets k 0 ≡ 0)
