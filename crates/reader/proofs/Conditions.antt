-- Which call gets which number: the check of a text part tells a refusal exactly when its condition is the first that holds, values exactly when none does.
--     part_chain       the tests of a text part, whatever kind of answer they guard
--     part_settled     the check, for all arguments
use Prim.Native.Nat.{ℕ, ◌+◌}
use mathlib.Core.List.{List, [], ◌∷◌}
use lib.ListN.{length}
use Rattle.basics.specs.Told.{values, refusal}
use Rattle.basics.specs.Conditions.{Settles}
use Rattle.basics.proofs.Conditions.{Chain, own, test, settles-told, less, least}
use Rattle.records.specs.Layout.{record_at, wire_count, offset_of, length_of}
use Rattle.table.proofs.Conditions.{wrong_length_lem}
use Rattle.reader.specs.Answers.{part_checked, part_check}
use Rattle.reader.specs.Conditions.{part_conditions}

module _ (text table : List ℕ) (wire : ℕ) where
  abbrev at : ℕ
  at = offset_of (record_at table wire)

  abbrev long : ℕ
  long = length_of (record_at table wire)

  pub part_chain : {A : Type 0} (refuse : ℕ → A) (part : ℕ → ℕ → A)
      → Chain refuse (part at long) (part_conditions text table wire) (part_checked refuse part text table wire)
  part_chain refuse part =
      test 12 (wrong_length_lem table)
      (test 21 (least (wire_count table) wire)
      (test 22 (less (length text) (at + long))
      (own refuse (part at long))))

  pub part_settled : Settles (part_conditions text table wire) (part_check text table wire)
  part_settled = settles-told (part_chain refusal (λ offset size. values (offset ∷ size ∷ [])))
