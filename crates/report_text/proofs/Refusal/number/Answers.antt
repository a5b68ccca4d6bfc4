-- `report_text::Refusal::number` meets its contract.
use mathlib.Core.Path.{◌≡◌, refl}
use Rattle.report_text.specs.declared.Refusal.{Refusal}
use Rattle.report_text.specs.Report.{refusal_number}
use Rattle.report_text.proofs.Refusal.number.Goals as goal

only : (why : Refusal) → 16 ≡ refusal_number why
only Refusal.BufferTooShort = refl

pub returns : goal.returns
returns c = only c.args.self
