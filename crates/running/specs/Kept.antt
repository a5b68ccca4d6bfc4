-- The tally that a walk keeps (request No. 4).
--     Kept notion table set tally     it is that of the set: its sum is that of the set's records, term by term, and so in value, whatever the
--                                     input and the mask setting; and as many wires pay as it says
--     Stands notion table n k rank held tally     where a walk is
use Rattle.std.specs.Prelude.{ℕ, ◌≡◌, List, map, take}
use Rattle.wires.specs.declared.Notion.{Notion}
use Rattle.wires.specs.Wires.{total, SumOfValues, allowed}
use Rattle.records.specs.Layout.{wire_at, terms_of}
use Rattle.revolving.specs.Order.{set_at}
use Rattle.running.specs.declared.Tally.{Tally}

pub record Kept (notion : Notion) (table set : List ℕ) (tally : Tally) : Type 0 where
  pub terms : terms_of tally.sum ≡ total (map (wire_at table) set)
  pub values : SumOfValues (terms_of tally.sum) (map (wire_at table) set)
  pub payers : tally.paid ≡ allowed notion (map (wire_at table) set)

-- a walk over the sets of k out of n wires stands at a rank: a buffer begins with the set there, and the tally is the set's
pub record Stands (notion : Notion) (table : List ℕ) (n k rank : ℕ) (held : List ℕ) (tally : Tally) : Type 0 where
  pub here : take k held ≡ set_at n k rank
  pub kept : Kept notion table (take k held) tally
