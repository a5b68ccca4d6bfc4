-- How far the code's reading has come, and what it stands for in the run.
--     Held                     the table holds the records of the wires listed, newest first, as far as there is room
--     state_of, Stands          the state of the run that the code's progress stands for
--     used_progress, put_progress, took_progress, line_progress      the progress after a symbol's use, an item, a symbol taken as an item, a line
--     Lists, MakesOuter        one wire more is listed; the newest is made the outer one of a line
--     Follows                  the progress stands for the state that a step of the run makes of the one before
use Rattle.std.specs.Prelude.{ℕ, ◌+◌, ◌*◌, ◌≤◌, ◌≡◌, false, cond, not, ◌||◌, List, ◌∷◌, reverse, length, take}
use Rattle.limits.specs.Limits.{max_wires, record_bytes}
use Rattle.basics.specs.Folds.{one_if}
use Rattle.records.specs.Layout.{plus_sum}
use Rattle.record_words.specs.Symbols.{symbol_sum, is_in}
use Rattle.description.specs.Listing.{records_of, put_into, empty_group}
use Rattle.description.specs.Run.{Around, State, symbol_item, newest_outer}
use Rattle.description.specs.declared.PlacedSymbol.{PlacedSymbol}
use Rattle.description.specs.declared.Item.{Item}
use Rattle.description.specs.declared.Listed.{Listed}
use Rattle.listing.specs.declared.Progress.{Progress}

pub record Held (table : List ℕ) (n : ℕ) (ws : List Listed) : Type 0 where
  pub count : n ≡ length ws
  pub records : n ≤ max_wires → take (record_bytes * n) table ≡ records_of (reverse ws)

abbrev pub state_of : Progress → List Around → List Listed → State
state_of p around ws = record {
  group = p.group;
  around = around;
  wires = ws;
  seen = p.seen;
  lines = p.lines;
  added = p.added;
  last = p.last;
}

pub record Stands (table : List ℕ) (p : Progress) (s : State) : Type 0 where
  pub state : s ≡ state_of p s.around s.wires
  pub held : Held table p.wires s.wires

abbrev pub used_progress : PlacedSymbol → Progress → Progress
used_progress q p = record {
  at = p.at;
  wires = p.wires + one_if (not (is_in q.symbol p.seen));
  seen = cond (is_in q.symbol p.seen) p.seen (plus_sum p.seen (symbol_sum q.symbol));
  lines = p.lines;
  added = p.added;
  last = q;
  group = p.group;
}

abbrev pub put_progress : Item → Progress → Progress
put_progress item p = record {
  at = item.end;
  wires = p.wires + one_if p.group.filled;
  seen = p.seen;
  lines = p.lines;
  added = p.added || p.group.filled;
  last = p.last;
  group = put_into p.group item;
}

abbrev pub took_progress : PlacedSymbol → Progress → Progress
took_progress q p = put_progress (symbol_item q) (used_progress q p)

abbrev pub line_progress : Progress → Progress
line_progress p = record {
  at = p.at;
  wires = p.wires + one_if (not p.added);
  seen = p.seen;
  lines = p.lines + 1;
  added = false;
  last = p.last;
  group = empty_group;
}

unfoldable pub Follows : List ℕ → Progress → List ℕ → Progress → (State → State) → Type 0
Follows table p table' q f = (s : State) → Stands table p s → Stands table' q (f s)

-- one wire more is listed
unfoldable pub Lists : List ℕ → ℕ → List ℕ → Listed → Type 0
Lists table n table' w = (ws : List Listed) → Held table n ws → Held table' (n + 1) (w ∷ ws)

-- the newest wire is made the outer one of a line
unfoldable pub MakesOuter : List ℕ → ℕ → List ℕ → ℕ → Type 0
MakesOuter table n table' line = (ws : List Listed) → Held table n ws → Held table' n (newest_outer line ws)
