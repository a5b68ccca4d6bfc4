-- What reports have found.
--     false_find, any_false     a found rank is not that of a set that passes the test, of a report and of some report of a list
--     Findable                every found rank is below the number of sets of its size
--     comes_first              a report has found a rank that comes before a place, if there is one, by size and then by rank
use Rattle.std.specs.Prelude.{ℕ, ◌≤◌, ◌<◌, ◌≡◌, Bool, not, ◌&&◌, ◌||◌, List, Option, None, Some, ltb, eqb}
use Rattle.limits.specs.Limits.{max_size}
use Rattle.basics.specs.Folds.{some, up_to}
use Rattle.counts.specs.Counts.{binom}
use Rattle.revolving.specs.Order.{set_at}
use Rattle.filed_reports.specs.declared.Report.{Report}
use Rattle.filed_reports.specs.declared.Place.{Place}
use Rattle.filed_reports.specs.Bytes.{all_ones, report_at, report_count}
use Rattle.filed_reports.specs.Filed.{is_clean}

-- "a found rank is not a breaking set"
abbrev pub false_find : (List ℕ → Bool) → ℕ → Report → Bool
false_find breaks n r = not (is_clean r) && not (breaks (set_at n r.size r.found))

unfoldable pub any_false : (List ℕ → Bool) → ℕ → List ℕ → Bool
any_false breaks n reports = some (λ i. false_find breaks n (report_at reports i)) (up_to (report_count reports))

pub record Findable (n : ℕ) (reports : List ℕ) : Type 0 where
  pub small : (i : ℕ) → i < report_count reports → ((report_at reports i).found ≡ all_ones → ⊥) → (report_at reports i).size ≤ max_size
  pub counted : (i : ℕ) → i < report_count reports → ((report_at reports i).found ≡ all_ones → ⊥)
      → (report_at reports i).found < binom n (report_at reports i).size

unfoldable pub comes_first : Report → Option Place → Bool
comes_first r None = not (is_clean r)
comes_first r (Some p) = not (is_clean r) && (ltb r.size p.size || (eqb r.size p.size && ltb r.found p.rank))
