-- What reading into a table of the code's own has found.
--     Scratched                                 the wires that were read, and their records
--     OutcomeRead                               what the answer says of an outcome
--     LinesListed, SecondReads, ScratchReads    so from the output lines, from the second line, from the start
use Rattle.std.specs.Prelude.{ℕ, ◌+◌, ◌*◌, ◌≤◌, ◌≡◌, List, length, take, drop, Result, Ok, Err}
use Rattle.limits.specs.Limits.{max_order, max_wires, record_bytes}
use Rattle.description.specs.Listing.{records_of}
use Rattle.description.specs.Header.{masks_line}
use Rattle.description.specs.Run.{start, run_at, second_at, Reading, read, turned_down, listed, after_masks, reading}
use Rattle.description.specs.declared.Fault.{Fault}
use Rattle.description.specs.declared.Listed.{Listed}
use Rattle.description.specs.declared.Masks.{Masks}
use Rattle.scratch_reader.specs.Answers.{tableless}
use Rattle.scratch_reader.specs.declared.Reading.{Reading as Figures}

pub record Scratched (outcome : Reading) (scratch : List ℕ) (order shares masks wires : ℕ) : Type 0 where
  pub listed-wires : List Listed
  pub reads : outcome ≡ read order masks listed-wires
  pub same_shares : shares ≡ order + 1
  pub low : order ≤ max_order
  pub few : wires ≤ max_wires
  pub count : wires ≡ length listed-wires
  pub records : take (record_bytes * wires) scratch ≡ records_of listed-wires

abbrev pub OutcomeRead : Reading → List ℕ → Result Figures Fault → Type 0
OutcomeRead outcome scratch (Ok r) = Scratched outcome scratch r.order r.shares r.masks r.wires
OutcomeRead outcome scratch (Err fault) = outcome ≡ turned_down fault.why fault.offset

abbrev pub LinesListed : List ℕ → ℕ → Masks → List ℕ → Result Figures Fault → Type 0
LinesListed text order m = OutcomeRead (tableless text (listed order m.count (run_at (order + 1) m.declared text m.end start)))

abbrev pub SecondReads : List ℕ → ℕ → List ℕ → Result Figures Fault → Type 0
SecondReads text order = OutcomeRead (tableless text (after_masks text order (masks_line second_at (drop second_at text))))

abbrev pub ScratchReads : List ℕ → List ℕ → Result Figures Fault → Type 0
ScratchReads text = OutcomeRead (tableless text (reading text))
