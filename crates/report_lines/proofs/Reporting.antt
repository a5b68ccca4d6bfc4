-- The whole report, by what was told.
--     room-read                                    the records of a text that was read are within the table
--     refused-reported, read-reported              the report on a text that is turned down, and on one that was read
use Prim.Native.Nat.{ℕ, ◌*◌, ◌-◌, ◌≤◌}
use native.Mathlib.Omega.{arith}
use mathlib.Core.Path.{◌≡◌, sym, ◌∙◌, subst}
use mathlib.Core.List.{List}
use lib.ListN.{take}
use Rattle.std.specs.Prelude.{Result, Ok, Err}
use Rattle.limits.specs.Limits.{record_bytes}
use Rattle.description.specs.Run as description
use Rattle.scratch_reader.specs.declared.Reading.{Reading}
use Rattle.reader.specs.Answers.{ReadLent, read_told, read_text}
use Rattle.reader.specs.Reads.{ReadsGrammar}
use Rattle.description.specs.declared.Fault.{Fault}
use Rattle.pages.specs.Page.{Wrote}
use Rattle.figure_lines.specs.Figures.{order_line, refused_line}
use Rattle.report_lines.specs.Report.{checked, empty_table, read_reported, report}
use Rattle.pages.proofs.Writing.{part-start, wrote_after}

pub room-read : (answer : Result Reading Fault) (text held : List ℕ) (room : ℕ) (r : Reading) → ReadsGrammar answer text room held → answer ≡ Ok r
    → record_bytes * r.wires ≤ room
room-read answer text held room r g e =
    let readable = g.read-exactly.0 (λ fault f. apart fault (sym e ∙ f)) in
    let count = (g.read-gives r e readable.description readable.spells).same_count in
    omega (arith, count, readable.table_room)
  where
    apart : (fault : Fault) → ◌≡◌ {A = Result Reading Fault} (Ok r) (Err fault) → ⊥
    apart fault e = let z : ◌≡◌ {A = ℕ} 0 1 = cc in omega (arith, z)

module _ (text held page after : List ℕ) (end : ℕ) where
  told-reported : (answer : Result Reading Fault) → read_told answer held ≡ read_text text empty_table
      → Wrote page 0 (read_reported (read_told answer held)) after end → Wrote page 0 (report text) after end
  unfolding report
  told-reported answer told w = subst (λ (l : ReadLent). Wrote page 0 (read_reported l) after end) told w

  pub refused-reported : (fault : Fault) (number : ℕ) → read_told (Err fault) held ≡ read_text text empty_table
      → number ≡ description.refusal_number fault.why → Wrote page 0 (refused_line number fault.offset) after end
      → Wrote page 0 (report text) after end
  refused-reported fault number told e w =
      told-reported (Err fault) told (subst (λ (n : ℕ). Wrote page 0 (refused_line n fault.offset) after end) e w)

  pub read-reported : (r : Reading) (mid : List ℕ) (next : ℕ) → read_told (Ok r) held ≡ read_text text empty_table
      → Wrote page 0 (order_line r.order r.shares r.masks r.wires) mid next
      → Wrote mid next (checked (take (record_bytes * r.wires - 0) held) r.order r.shares r.masks) after end → Wrote page 0 (report text) after end
  read-reported r mid next told w x =
      told-reported (Ok r) told
      (wrote_after page 0 (order_line r.order r.shares r.masks r.wires) mid next
      (checked (take (record_bytes * r.wires) held) r.order r.shares r.masks) after end w
      (subst (λ (l : List ℕ). Wrote mid next (checked l r.order r.shares r.masks) after end) (part-start (record_bytes * r.wires) held) x))
