-- Which operand leaks: what the answer on a set means, and what it says of the set that a verdict shows.
--     SetAsked           a set that no test turns down
--     DependenceMeans    the counts are those of the shares with which the sum of the set's values changes, and so of the masks; the set breaks the
--                        notion exactly when no mask is left and a count is above what the notion allows
--     LeaksA, LeaksB     the set admits no choice of shares, even if every share of the other operand may be chosen
--     Leaking            the set that a verdict shows has no mask left, an operand's count is above what is allowed exactly when it leaks, and
--                        one of the two does
use Rattle.std.specs.Prelude.{ℕ, ◌≤◌, ◌<◌, ◌≡◌, ◌↔◌, ◌⊎◌, true, false, List, [], ◌∷◌, map, length, Result, Ok}
use Rattle.limits.specs.Limits.{max_size}
use Rattle.basics.specs.Told.{values}
use Rattle.wires.specs.Dependence.{SetDepends}
use Rattle.watcher.specs.Watcher.{ChoiceByA, ChoiceByB}
use Rattle.records.specs.Layout.{wire_at, wire_count}
use Rattle.revolving.specs.Order.{rising, below}
use Rattle.table.specs.Answers.{table_check}
use Rattle.breaking.specs.Breaking.{is_breaking}
use Rattle.verdict_answers.specs.declared.Refusal.{Refusal}
use Rattle.verdict_answers.specs.declared.DependsOn.{DependsOn}
use Rattle.verdict_answers.specs.Answers.{notion_of, set_dependence}
use Rattle.verdict_answers.specs.Conditions.{WrongNotion}

pub record SetAsked (table : List ℕ) (shares masks notion : ℕ) (set : List ℕ) : Type 0 where
  pub sound : values [] ≡ table_check table shares masks
  pub known : WrongNotion notion → ⊥
  pub small : length set ≤ max_size
  pub distinct : rising set ≡ true
  pub within : below (wire_count table) set ≡ true

pub record DependenceMeans (answer : Result DependsOn Refusal) (table : List ℕ) (shares masks notion : ℕ) (set : List ℕ) : Type 0 where
  pub depends : (on : DependsOn) → answer ≡ Ok on
      → SetDepends (notion_of notion) shares masks (map (wire_at table) set) on.of_a on.of_b on.allowed on.masked
  pub breaks-exactly : (on : DependsOn) → answer ≡ Ok on
      → (is_breaking (notion_of notion) table shares masks set ≡ true) ↔ ((on.masked ≡ false) × ((on.allowed < on.of_a) ⊎ (on.allowed < on.of_b)))

abbrev pub LeaksA : List ℕ → ℕ → ℕ → ℕ → List ℕ → Type 0
LeaksA table shares masks notion set = ChoiceByA (notion_of notion) shares masks (map (wire_at table) set) → ⊥

abbrev pub LeaksB : List ℕ → ℕ → ℕ → ℕ → List ℕ → Type 0
LeaksB table shares masks notion set = ChoiceByB (notion_of notion) shares masks (map (wire_at table) set) → ⊥

pub record Leaking (table : List ℕ) (shares masks notion : ℕ) (set : List ℕ) : Type 0 where
  pub of_a : ℕ
  pub of_b : ℕ
  pub most : ℕ
  pub told : set_dependence table shares masks notion set ≡ values (of_a ∷ of_b ∷ most ∷ 0 ∷ [])
  pub by_a : (most < of_a) ↔ LeaksA table shares masks notion set
  pub by_b : (most < of_b) ↔ LeaksB table shares masks notion set
  pub one : (most < of_a) ⊎ (most < of_b)
