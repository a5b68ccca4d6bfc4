-- What `job` tells of a rank.
--     JobTells n k jobs i r     rank r is among those that `job` tells of job i
use Rattle.std.specs.Prelude.{ℕ, ◌≤◌, ◌<◌, ◌≡◌, [], ◌∷◌}
use Rattle.basics.specs.Told.{values}
use Rattle.division.specs.Answers.{job_ranks}

pub record JobTells (n k jobs i r : ℕ) : Type 0 where
  pub from : ℕ
  pub to : ℕ
  pub told : job_ranks n k i jobs ≡ values (from ∷ to ∷ [])
  pub low : from ≤ r
  pub high : r < to
