-- From one set to the next in the published order (request No. 4): one wire leaves and one enters.
--     contains x s        whether wire x is one of s
--     without x s         s with wire x left out
--     Exchanged s t x y   t is s with x gone and y come, and else the same
--     HasNext n s         s is a set of the n wires, and not the last of its size
--     next_set n s         the set at the next rank after that of s
use Rattle.std.specs.Prelude.{ℕ, ◌+◌, ◌<◌, ◌≡◌, Bool, true, false, not, List, eqb, length}
use Rattle.basics.specs.Folds.{some, keep}
use Rattle.counts.specs.Counts.{binom}
use Rattle.revolving.specs.Order.{set_at, is_set, rank_of}

abbrev pub contains : ℕ → List ℕ → Bool
contains x s = some (eqb x) s

abbrev pub without : ℕ → List ℕ → List ℕ
without x s = keep (λ y. not (eqb x y)) s

pub record Exchanged (s t : List ℕ) (x y : ℕ) : Type 0 where
  pub was : contains x s ≡ true
  pub gone : contains x t ≡ false
  pub come : contains y t ≡ true
  pub fresh : contains y s ≡ false
  pub rest : without x s ≡ without y t

pub record HasNext (n : ℕ) (s : List ℕ) : Type 0 where
  pub is-set : is_set n (length s) s ≡ true
  pub later : rank_of n s + 1 < binom n (length s)

unfoldable pub next_set : ℕ → List ℕ → List ℕ
next_set n s = set_at n (length s) (rank_of n s + 1)
