-- The least rank of a set that passes a test.
--     LeastRank     the least rank of a set of a size that passes; none where no set of the size does
use Rattle.std.specs.Prelude.{ℕ, ◌<◌, ◌≡◌, Bool, true, false, List, Option, None, Some}
use Rattle.counts.specs.Counts.{binom}
use Rattle.revolving.specs.Order.{set_at}

-- this is the least rank of a set of the size that passes
pub record ShowsLeast (test : List ℕ → Bool) (n size rank : ℕ) : Type 0 where
  pub within : rank < binom n size
  pub found : test (set_at n size rank) ≡ true
  pub earlier : (i : ℕ) → i < rank → test (set_at n size i) ≡ false

abbrev pub LeastRank : (List ℕ → Bool) → ℕ → ℕ → Option ℕ → Type 0
LeastRank test n size None = (i : ℕ) → i < binom n size → test (set_at n size i) ≡ false
LeastRank test n size (Some rank) = ShowsLeast test n size rank
