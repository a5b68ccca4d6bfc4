-- Demand 3, on the verdict's answer: no breaking set and no search in it. Its words are those of `watcher`.
--     Watched          a set of wires to watch: distinct wires of the table, at most as many as the order
--     HasChoice        shares can be chosen for the set as demand 3 says
--     Shown            the set at the start of a buffer is one to watch, of a size that is not 0, and has no choice
--     Guarantee        holds exactly when every set to watch has a choice; when broken, the set shown has none
use Rattle.std.specs.Prelude.{ℕ, ◌≤◌, ◌<◌, ◌≡◌, ◌↔◌, true, List, map, length, take, Result, Ok, Err}
use Rattle.records.specs.Layout.{wire_at, wire_count}
use Rattle.revolving.specs.Order.{rising, below}
use Rattle.watcher.specs.Watcher.{Choice}
use Rattle.verdict_answers.specs.declared.Refusal.{Refusal}
use Rattle.verdict_answers.specs.declared.Judged.{Judged}
use Rattle.verdict_answers.specs.Answers.{notion_of}

-- a set is written as the list of its wires, rising; it may be empty, and its wires inner or outer
pub record Watched (table : List ℕ) (order : ℕ) (set : List ℕ) : Type 0 where
  pub distinct : rising set ≡ true
  pub within : below (wire_count table) set ≡ true
  pub few : length set ≤ order

abbrev pub HasChoice : List ℕ → ℕ → ℕ → ℕ → List ℕ → Type 0
HasChoice table shares masks notion set = Choice (notion_of notion) shares masks (map (wire_at table) set)

pub record Shown (table : List ℕ) (shares masks notion order size : ℕ) (held : List ℕ) : Type 0 where
  pub some : 0 < size
  pub whole : length (take size held) ≡ size
  pub watched : Watched table order (take size held)
  pub no_choice : HasChoice table shares masks notion (take size held) → ⊥

-- an answer that is no refusal is holds exactly when every set to watch has a choice
pub record Guarantee (answer : Result Judged Refusal) (table : List ℕ) (shares masks notion order : ℕ) (held : List ℕ) : Type 0 where
  pub holds-exactly : ((why : Refusal) → answer ≡ Err why → ⊥)
      → (answer ≡ Ok Judged.Holds) ↔ ((set : List ℕ) → Watched table order set → HasChoice table shares masks notion set)
  pub broken-shows : (size : ℕ) → answer ≡ Ok (Judged.Broken size) → Shown table shares masks notion order size held
