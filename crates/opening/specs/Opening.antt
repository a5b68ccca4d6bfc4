-- The tests that every entry begins with, by themselves: what `opening` tells.
--     notion_number     the number of a notion
--     opened_told       what the code's answer tells
--     opens            what it is to tell
use Rattle.std.specs.Prelude.{ℕ, List, [], ◌∷◌, Result, Ok, Err}
use Rattle.basics.specs.Told.{Told, values, refusal}
use Rattle.wires.specs.declared.Notion.{Notion}
pub use Rattle.wires.specs.Notions.{notion_number}
use Rattle.verdict_answers.specs.declared.Refusal.{Refusal}
use Rattle.verdict_answers.specs.Answers.{refusal_number, opened}

abbrev pub opened_told : Result Notion Refusal → Told
opened_told (Ok kind) = values (notion_number kind ∷ [])
opened_told (Err why) = refusal (refusal_number why)

abbrev pub opens : List ℕ → ℕ → ℕ → ℕ → Told
opens table shares masks notion = opened refusal table shares masks notion (values (notion ∷ []))
