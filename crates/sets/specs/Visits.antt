-- What the entries tell, taken together.
--     SetTells n k r s     `set_from_rank` writes s for rank r, at the start of any buffer that has room
--     RankTells n s r      `rank_from_set` tells r of s
use Rattle.std.specs.Prelude.{ℕ, ◌≤◌, ◌≡◌, List, [], ◌∷◌, ◌++◌, length, drop}
use Rattle.basics.specs.Told.{values}
use Rattle.sets.specs.Answers.{set_from_rank, rank_from_set}

abbrev pub SetTells : ℕ → ℕ → ℕ → List ℕ → Type 0
SetTells n k r s =
    (buffer : List ℕ) → k ≤ length buffer → set_from_rank n k r buffer ≡ record { told = values []; held = s ++ drop k buffer }

abbrev pub RankTells : ℕ → List ℕ → ℕ → Type 0
RankTells n s r = rank_from_set n s ≡ values (r ∷ [])
