-- Demand 2, in its own words: which set is the first in the published order.
--     NotAfter           a set comes no later than another: by size, then by rank
--     FirstBreaking      a set to watch that breaks the notion, and no such set comes before it
--     FirstInRange       the set at the first rank of a range whose set breaks the notion
--     VerdictFinds       holds: no set to watch breaks, and the buffer is as it was; broken: the set shown is the first that does, and the buffer
--                        past it is as it was; refused: the buffer is as it was
--     RangeFinds         the same for a range, with the size asked for and the rank
use Rattle.std.specs.Prelude.{ℕ, ◌≤◌, ◌<◌, ◌≡◌, ◌⊎◌, true, false, List, length, take, drop, Result, Ok, Err}
use Rattle.records.specs.Layout.{wire_count}
use Rattle.revolving.specs.Order.{set_at, rank_of}
use Rattle.verdict_answers.specs.declared.Refusal.{Refusal}
use Rattle.verdict_answers.specs.declared.Judged.{Judged}
use Rattle.verdict_answers.specs.declared.Checked.{Checked}
use Rattle.breaking.specs.Breaking.{is_breaking}
use Rattle.verdict_answers.specs.Answers.{notion_of}
use Rattle.verdict_answers.specs.Guarantee.{Watched}

abbrev pub NotAfter : ℕ → List ℕ → List ℕ → Type 0
NotAfter wires s u = (length s < length u) ⊎ ((length s ≡ length u) × (rank_of wires s ≤ rank_of wires u))

pub record FirstBreaking (table : List ℕ) (shares masks notion order : ℕ) (set : List ℕ) : Type 0 where
  pub watched : Watched table order set
  pub breaking : is_breaking (notion_of notion) table shares masks set ≡ true
  pub first : (u : List ℕ) → Watched table order u → is_breaking (notion_of notion) table shares masks u ≡ true → NotAfter (wire_count table) set u

pub record FirstInRange (table : List ℕ) (shares masks notion size from to : ℕ) (set : List ℕ) (rank : ℕ) : Type 0 where
  pub low : from ≤ rank
  pub high : rank < to
  pub stands : set_at (wire_count table) size rank ≡ set
  pub breaking : is_breaking (notion_of notion) table shares masks set ≡ true
  pub first : (r : ℕ) → from ≤ r → r < rank → is_breaking (notion_of notion) table shares masks (set_at (wire_count table) size r) ≡ false

pub record VerdictFinds (answer : Result Judged Refusal) (table : List ℕ) (shares masks notion order : ℕ) (buffer held : List ℕ) : Type 0 where
  pub holds : answer ≡ Ok Judged.Holds
      → (held ≡ buffer) × ((u : List ℕ) → Watched table order u → is_breaking (notion_of notion) table shares masks u ≡ false)
  pub broken : (size : ℕ) → answer ≡ Ok (Judged.Broken size)
      → (drop size held ≡ drop size buffer) × FirstBreaking table shares masks notion order (take size held)
  pub refused : (why : Refusal) → answer ≡ Err why → held ≡ buffer

pub record RangeFinds (answer : Result Checked Refusal) (table : List ℕ) (shares masks notion size from to : ℕ) (buffer held : List ℕ) : Type 0 where
  pub clean : answer ≡ Ok Checked.Clean
      → (held ≡ buffer)
      × ((r : ℕ) → from ≤ r → r < to → is_breaking (notion_of notion) table shares masks (set_at (wire_count table) size r) ≡ false)
  pub found : (k rank : ℕ) → answer ≡ Ok (Checked.Found k rank)
      → (k ≡ size) × (drop size held ≡ drop size buffer) × FirstInRange table shares masks notion size from to (take size held) rank
  pub refused : (why : Refusal) → answer ≡ Err why → held ≡ buffer
