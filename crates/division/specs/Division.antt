-- The division of a size's sets over jobs (scope, "Numbering and dividing").
--     start all jobs i     the rank at which job i starts, and the job before it ends
--     share all jobs i     how many ranks job i has
--     total j f            the sum of f at 0, 1, .. j - 1
--     visited n k jobs i   the sets that job i visits, in order
--     joined j f           the lists that f gives at 0, 1, .. j - 1, one after the other
--     HasRank all jobs i r        rank r is one of job i's
--     ExactlyOne has stands       exactly one job has a rank at which something stands, and it has exactly one
use Rattle.std.specs.Prelude.{ℕ, zero, suc, ◌+◌, ◌-◌, ◌*◌, ◌/◌, ◌≤◌, ◌<◌, ◌≡◌, List, [], ◌++◌, take, drop}
use Rattle.counts.specs.Counts.{binom}
use Rattle.revolving.specs.Order.{revolving}

-- the floor of the whole product i times all over jobs, which no word has to hold
abbrev pub start : ℕ → ℕ → ℕ → ℕ
start all jobs i = i * all / jobs

abbrev pub share : ℕ → ℕ → ℕ → ℕ
share all jobs i = start all jobs (suc i) - start all jobs i

abbrev pub total : ℕ → (ℕ → ℕ) → ℕ
total zero f = 0
total (suc j) f = total j f + f j

abbrev pub visited : ℕ → ℕ → ℕ → ℕ → List (List ℕ)
visited n k jobs i = take (share (binom n k) jobs i) (drop (start (binom n k) jobs i) (revolving n k))

abbrev pub joined : ℕ → (ℕ → List (List ℕ)) → List (List ℕ)
joined zero f = []
joined (suc j) f = joined j f ++ f j

pub record HasRank (all jobs i r : ℕ) : Type 0 where
  pub inside : i < jobs
  pub from : start all jobs i ≤ r
  pub to : r < start all jobs (suc i)

pub record ExactlyOne (has : ℕ → ℕ → Type 0) (stands : ℕ → Type 0) : Type 0 where
  pub job : ℕ
  pub rank : ℕ
  pub visits : has job rank
  pub here : stands rank
  pub only : (i r : ℕ) → has i r → stands r → (i ≡ job) × (r ≡ rank)
