-- What the report's entry answers (scope, "Report program and examples"), over the lines of the report.
--     refusal_number, report_told     the number of a refusal, and what the code's answer tells, with what the lent buffer then holds
--     report_text                    what the entry is to tell, and what the buffer is to hold
--     RoomEnough                    a report is never longer than so many bytes, and a buffer of as many never refused
use Rattle.std.specs.Prelude.{Result, Ok, Err, ℕ, ◌≤◌, ◌<◌, ◌≡◌, cond, List, [], ◌∷◌, ltb, length}
use Rattle.basics.specs.Told.{Lent, values, refusal, turned_down}
use Rattle.verdict_answers.specs.Answers.{written}
use Rattle.report_lines.specs.Report.{report, max_report}
use Rattle.report_text.specs.declared.Refusal.{Refusal}

-- 16, the buffer is too short
abbrev pub refusal_number : Refusal → ℕ
refusal_number Refusal.BufferTooShort = 16

abbrev pub report_told : Result ℕ Refusal → List ℕ → Lent
report_told (Ok size) held = record { told = values (size ∷ []); held = held }
report_told (Err why) held = record { told = refusal (refusal_number why); held = held }

-- the report stands at the start of the buffer, whose rest is as it was; where it does not fit, nothing is written
abbrev pub report_text : List ℕ → List ℕ → Lent
report_text text buffer =
    cond (ltb (length buffer) (length (report text))) (turned_down 16 buffer)
    (record { told = values (length (report text) ∷ []); held = written (report text) buffer })

pub record RoomEnough (answer : Result ℕ Refusal) (room : ℕ) : Type 0 where
  pub short : (size : ℕ) → answer ≡ Ok size → size ≤ max_report
  pub enough : (why : Refusal) → answer ≡ Err why → room < max_report
