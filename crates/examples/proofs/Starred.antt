-- Every starred example of the scope holds: one theorem over the table, computed from the definitions that the contracts cite.
--     all_append           two parts of a table
--     computed             the part that is computed by running the definitions
--     fours, large         the part on 512 wires, whose count is that of a row of Pascal's triangle
--     all_hold             the theorem
--     also_in_general      the two that speak of every table and every number of wires
use Prim.Native.Nat.{ℕ, ◌*◌, ◌/◌, ◌%◌, ◌^◌}
use native.Mathlib.Omega.{arith}
use mathlib.Core.Path.{◌≡◌, refl, ap}
use mathlib.Core.Bool.{xor}
use mathlib.Core.List.{List, [], ◌∷◌, ◌++◌}
use lib.ListN.{take, drop}
use Rattle.basics.specs.Folds.{up_to}
use Rattle.basics.specs.Told.{values}
use Rattle.wires.specs.Wires.{count_a, masked, breaks, beyond}
use Rattle.wires.specs.Function.{computes}
use Rattle.wires.proofs.Breaks.{empty-breaks-nothing}
use Rattle.records.specs.Words.{bit}
use Rattle.counts.specs.Counts.{binom}
use Rattle.counts.proofs.Rows.{binom_row}
use Rattle.revolving.specs.Order.{revolving}
use Rattle.division.specs.Division.{start}
use Rattle.sets.proofs.Examples.{rank-one_of_pairs}
use Rattle.description.specs.Header.{order_line, masks_line, names_from}
use Rattle.description.specs.Listing.{encode}
use Rattle.description.specs.Run.{run}
use Rattle.breaking.specs.Breaking.{is_breaking}
use Rattle.search.specs.Search.{searched}
use Rattle.pages.specs.Decimal.{decimal}
use Rattle.verdict_lines.specs.Lines.{notion_line}
use Rattle.report_lines.specs.Report.{function_line, checked, report}
use Rattle.examples.specs.Starred.{Case, AllHold, starred, AlsoInGeneral}

-- two parts of a table
all_append : (k l : List Case) → AllHold k → AllHold l → AllHold (k ++ l)
all_append [] l p q = q
all_append (c ∷ k) l p q = (p.0, all_append k l p.1 q)

-- all but the last three are computed by running the definitions
computed : AllHold (take 18 starred)
unfolding order_line masks_line names_from run bit encode up_to xor beyond computes breaks count_a masked searched is_breaking revolving decimal function_line notion_line checked report binom
computed = (refl, (refl, (refl, (refl, (refl, (refl, (refl, (refl, (refl, (refl, (refl, (refl, (refl, (refl, (refl, (refl, (refl, (refl, tt))))))))))))))))))

fours : binom 512 4 ≡ 2829877120
fours = binom_row 512 4 (omega arith)

large : AllHold (drop 18 starred)
large = (
  ap (λ (all : ℕ). values (all ∷ [])) fours,
  (
    ap (λ (all : ℕ). values (start all 16 2 ∷ start all 16 3 ∷ [])) fours,
    (
      ap (λ (all : ℕ). values (2 * all % 2 ^ 32 / 16 ∷ [])) fours,
      tt,
    ),
  ),
)

pub all_hold : AllHold starred
all_hold = all_append (take 18 starred) (drop 18 starred) computed large

pub also_in_general : AlsoInGeneral
unfolding is_breaking
also_in_general = record {
  empty-set = λ notion table shares masks. empty-breaks-nothing notion shares masks;
  rank-one = rank-one_of_pairs;
}
