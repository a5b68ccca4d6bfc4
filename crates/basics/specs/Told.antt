-- An answer in the scope's own numbers.
--     Told         the values of an answer, or the number of a refusal
--     Lent         what is told, with what the lent buffer then holds
--     turned_down   a refusal, which leaves the lent buffer as it was
use Rattle.std.specs.Prelude.{ℕ, List}

pub data Told : Type 0 where
  values : List ℕ → Told
  refusal : ℕ → Told

pub record Lent : Type 0 where
  pub told : Told
  pub held : List ℕ

abbrev pub turned_down : ℕ → List ℕ → Lent
turned_down number buffer = record { told = refusal number; held = buffer }
