-- How far the ranks of a size are covered by the reports of a list.
--     Onward     from one rank up to, without, another every rank is covered
use Rattle.std.specs.Prelude.{ℕ, ◌≤◌, ◌<◌, ◌≡◌, true, List}
use Rattle.filed_reports.specs.Filed.{covered}

pub record Onward (reports : List ℕ) (size from to : ℕ) : Type 0 where
  pub rises : from ≤ to
  pub between : (rank : ℕ) → from ≤ rank → rank < to → covered reports size rank ≡ true
