-- The report, by the buffer that it is written to.
--     report-short, report-written                 a buffer that is too short, and one that is not
--     room-refused, room-written                   a report of at most 512 bytes, refused and written
--     page-bytes                                   how long a page is that is never too short
use Prim.Native.Nat.{ℕ, ◌≤◌, ◌<◌}
use native.Mathlib.Omega.{arith}
use mathlib.Core.Path.{◌≡◌, refl, sym, ap₂}
use mathlib.Core.List.{List, [], ◌∷◌}
use lib.ListN.{length}
use borrow.Author.Tests.{lt-ltb, le-ltb}
use Rattle.std.specs.Prelude.{Result, Ok, Err}
use Rattle.basics.specs.Told.{values, turned_down}
use Rattle.pages.specs.Page.{Wrote}
use Rattle.report_lines.specs.Report.{report, max_report}
use Rattle.report_text.specs.declared.Refusal as report-texts
use Rattle.report_text.specs.Report.{report_text, RoomEnough}
use Rattle.pages.proofs.Writing.{copied, copied_start}

module _ (text buffer blank page : List ℕ) (end : ℕ) (wrote : Wrote blank 0 (report text) page end) where
  pub report-short : length buffer < end → turned_down 16 buffer ≡ report_text text buffer
  report-short h = let size = wrote.end_is in simp (lt-ltb (length buffer) (length (report text)) (omega (arith, h, size)))

  pub report-written : (held : List ℕ) → end ≤ length buffer → held ≡ copied page end buffer
      → record { told = values (end ∷ []); held = held } ≡ report_text text buffer
  report-written held h e =
      let c = copied_start blank (report text) page end buffer held wrote e in
      let size = c.0 in
      simp (le-ltb (length buffer) (length (report text)) (omega (arith, h, size)))
      (ap₂ (λ (n : ℕ) (l : List ℕ). record { told = values (n ∷ []); held = l }) size c.1)

apart : (why : report-texts.Refusal) (size : ℕ) → ◌≡◌ {A = Result ℕ report-texts.Refusal} (Err why) (Ok size) → ⊥
apart why size e = let z : ◌≡◌ {A = ℕ} 0 1 = cc in omega (arith, z)

pub room-refused : (why : report-texts.Refusal) (room end : ℕ) → end ≤ max_report → room < end → RoomEnough (Err why) room
room-refused why room end few short = record {
  short = λ size e. absurd (apart why size e);
  enough = λ other e. omega (arith, few, short);
}

pub room-written : (room end : ℕ) → end ≤ max_report → RoomEnough (Ok end) room
room-written room end few = record {
  short = λ size e. let f : size ≡ end = cc in omega (arith, few, f);
  enough = λ why e. absurd (apart why end (sym e));
}

-- the page that is never too short, as the header for C callers has it
pub page-bytes : max_report ≡ 512
page-bytes = refl
