-- The nodes of a directed search, and what is promised of a descent from one.
--     Node         the sum and the pay of a node are those of its chosen wires, its size is theirs and that of the wires to come; no wire above the top
--                  one is open or chosen
--     Looked       what is kept after a descent is no more than what came in; where it is less it is the rank of a set that passes, with no wire above
--                  the top one; and it is at most the rank of every set that passes and fits
use Rattle.std.specs.Prelude.{ℕ, suc, ◌+◌, ◌≤◌, ◌<◌, ◌≡◌, Bool, true, List, map, length}
use Rattle.limits.specs.Limits.{max_wires}
use Rattle.counts.specs.Counts.{binom}
use Rattle.revolving.specs.Order.{set_at, rank_of}
use Rattle.wires.specs.declared.Notion.{Notion}
use Rattle.wires.specs.Wires.{total, allowed}
use Rattle.records.specs.declared.sums.Sum.{Sum}
use Rattle.records.specs.Layout.{wire_at, wire_count, terms_of}
use Rattle.parts.specs.Parts.{members}
use Rattle.choices.specs.Marks.{is_closed, is_chosen, Fits}

pub record Node (notion : Notion) (table : List ℕ) (size top : ℕ) (marks : List ℕ) (sum : Sum) (paid left : ℕ) : Type 0 where
  pub room : length marks ≡ max_wires
  pub top_in : top < wire_count table
  pub top_chosen : is_chosen marks top ≡ true
  pub above : (w : ℕ) → top < w → w < wire_count table → is_closed marks w ≡ true
  pub sum_is : terms_of sum ≡ total (map (wire_at table) (members (wire_count table) (is_chosen marks)))
  pub paid_is : paid ≡ allowed notion (map (wire_at table) (members (wire_count table) (is_chosen marks)))
  pub size_is : length (members (wire_count table) (is_chosen marks)) + left ≡ size

pub record Looked (test : List ℕ → Bool) (n size top : ℕ) (marks : List ℕ) (before after : ℕ) : Type 0 where
  pub most : after ≤ before
  pub low : after < before → after < binom (suc top) size
  pub found : after < before → test (set_at n size after) ≡ true
  pub covers : (s : ℕ → Bool) → length (members n s) ≡ size → test (members n s) ≡ true → Fits marks n s → after ≤ rank_of n (members n s)
