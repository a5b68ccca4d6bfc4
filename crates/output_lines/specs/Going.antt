-- What lines read, as steps of the run.
--     Skips                            spaces are passed over
--     LineWent, AllRead                where the reading goes on; all output lines are read
--     LineReads, LinesRead             what the answer of each part says
--     next_line, start_progress          the progress past a line's end, before the output lines
use Rattle.std.specs.Prelude.{ℕ, ◌+◌, ◌≤◌, ◌<◌, ◌≡◌, false, cond, List, [], ltb, length, get_or, Result, Ok, Err}
use Rattle.records.specs.Layout.{no_sum}
use Rattle.description.specs.Bytes.{space}
use Rattle.description.specs.Listing.{empty_group}
use Rattle.description.specs.Run.{State, start, done, refused, run_at}
use Rattle.description.specs.declared.Fault.{Fault}
use Rattle.listing.specs.declared.Progress.{Progress}
use Rattle.listing.specs.Progress.{Stands}
use Rattle.groups.specs.Going.{Within, Reached}

-- spaces are passed over
pub record Skips (text : List ℕ) (from at : ℕ) : Type 0 where
  pub inside : at ≤ length text
  pub forward : from ≤ at
  pub other : at < length text → get_or text at 0 ≡ space → ⊥
  pub passes : (shares declared : ℕ) (s : State) → run_at shares declared text from s ≡ run_at shares declared text at s

-- past a line's end; the text's end is left
abbrev pub next_line : ℕ → Progress → Progress
next_line size p = record {
  at = cond (ltb p.at size) (p.at + 1) p.at;
  wires = p.wires;
  seen = p.seen;
  lines = p.lines;
  added = p.added;
  last = p.last;
  group = p.group;
}

-- before the output lines
abbrev pub start_progress : ℕ → Progress
start_progress from = record {
  at = from;
  wires = 0;
  seen = no_sum;
  lines = 0;
  added = false;
  last = start.last;
  group = empty_group;
}

module _ (shares declared : ℕ) (text : List ℕ) where
  pub record LineWent (table : List ℕ) (p : Progress) (table' : List ℕ) (q : Progress) : Type 0 where
    pub within : Within (length text) q
    pub most-lines : q.lines ≤ shares
    pub blank : q.group.filled ≡ false
    pub forward : (p.at ≤ q.at) × (p.at < length text → p.at < q.at)
    pub reached : (s : State) → Stands table p s → s.around ≡ [] → Reached shares declared text p.at s [] table' q

  abbrev pub LineReads : List ℕ → Progress → List ℕ → Result Progress Fault → Type 0
  LineReads table p table' (Ok q) = LineWent table p table' q
  LineReads table p table' (Err fault) =
      (s : State) → Stands table p s → s.around ≡ [] → run_at shares declared text p.at s ≡ refused fault.why fault.offset

  -- all output lines are read, from a place on
  pub record AllRead (from : ℕ) (table : List ℕ) (q : Progress) : Type 0 where
    pub within : Within (length text) q
    pub all_lines : q.lines ≤ shares
    pub state : State
    pub stands : Stands table q state
    pub finished : run_at shares declared text from start ≡ done state

  abbrev pub LinesRead : ℕ → List ℕ → Result Progress Fault → Type 0
  LinesRead from table (Ok q) = AllRead from table q
  LinesRead from table (Err fault) = run_at shares declared text from start ≡ refused fault.why fault.offset
