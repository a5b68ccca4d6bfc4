-- How many ones a word has, by a table.
--     Ones table         a table of how many ones a word has
use Rattle.std.specs.Prelude.{ℕ, ◌^◌, ◌<◌, ◌≡◌, List, get_or}
use Rattle.std.specs.Int.Count.{ones}
use Rattle.limits.specs.Limits.{max_shares}

-- at each place how many ones its number has, for the words of as many bits as there are shares
unfoldable pub Ones : List ℕ → Type 0
Ones table = (word : ℕ) → word < 2 ^ max_shares → get_or table word 0 ≡ ones word
