-- When a call is turned down, and by which number (scope, "What each operation turns down").
--     Condition      the number of a refusal, and when it is due
--     Some           it holds of some number below n
--     First          the condition with this number holds, and none before it does
--     None           no condition holds
--     Settles        a refusal is told exactly when its condition is the first that holds, values exactly when none does
--     SettlesLent    the same where a buffer is lent, which every refusal leaves as it was
use Rattle.std.specs.Prelude.{ℕ, ◌<◌, ◌≡◌, ◌↔◌, ◌⊎◌, List, [], ◌∷◌}
use Rattle.basics.specs.Told.{Told, Lent, values, refusal}

infix 70 ◌when◌
-- a call is turned down with this number when this holds
pub data Condition : Type 1 where
  ◌when◌ : ℕ → Type 0 → Condition

-- it holds of some number below n
abbrev pub Some : ℕ → (ℕ → Type 0) → Type 0
Some n Holds = (i : ℕ) × (i < n) × Holds i

-- of conditions in the order in which they are tested, the one with number n holds, and none before it does
abbrev pub First : List Condition → ℕ → Type 0
First [] n = ⊥
First (number when holds ∷ later) n = (holds × (number ≡ n)) ⊎ ((holds → ⊥) × First later n)

-- none of them holds
abbrev pub None : List Condition → Type 0
None [] = Unit {0}
None (number when holds ∷ later) = (holds → ⊥) × None later

-- what is told is the refusal n exactly when n's condition is the first that holds, and values exactly when none does
pub record Settles (conditions : List Condition) (told : Told) : Type 0 where
  pub refused : (n : ℕ) → (told ≡ refusal n) ↔ First conditions n
  pub answered : ((l : List ℕ) × (told ≡ values l)) ↔ None conditions

-- "all refusals leave lent memory unaltered"
pub record SettlesLent (conditions : List Condition) (buffer : List ℕ) (answer : Lent) : Type 0 where
  pub settles : Settles conditions answer.told
  pub kept : (n : ℕ) → answer.told ≡ refusal n → answer.held ≡ buffer
