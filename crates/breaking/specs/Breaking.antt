-- Breaking sets of a table (scope, "Breaking sets").
--     is_breaking     whether the wires of a set, taken from a table, break a notion
use Rattle.std.specs.Prelude.{ℕ, Bool, List, map}
use Rattle.wires.specs.declared.Notion.{Notion}
use Rattle.wires.specs.Wires.{breaks}
use Rattle.records.specs.Layout.{wire_at}

unfoldable pub is_breaking : Notion → List ℕ → ℕ → ℕ → List ℕ → Bool
is_breaking notion table shares masks set = breaks notion shares masks (map (wire_at table) set)
