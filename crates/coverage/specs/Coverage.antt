-- How far the ranks of a size are covered by the reports of a list.
--     Reach      every rank below one is covered, and that one is not, if it is below the number of sets
use Rattle.std.specs.Prelude.{ℕ, ◌<◌, ◌≡◌, true, false, List}
use Rattle.filed_reports.specs.Filed.{covered}

pub record Reach (reports : List ℕ) (size all to : ℕ) : Type 0 where
  pub before : (rank : ℕ) → rank < to → covered reports size rank ≡ true
  pub ends : to < all → covered reports size to ≡ false
