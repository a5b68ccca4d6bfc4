-- What it means that a set of wires depends on a share or has a mask left (scope, "Breaking sets"), in values alone: no record and no bit of a word in it.
--     sum_shown         the sum, without carry, of the values of wires, under an input and a mask setting
--     Changes          some input and mask setting give another sum once they are changed in a given way
--     ChangesWithA     once share i of a alone is changed
--     ChangesWithB     the same for share j of b
--     ChangesWithMask  the same for mask k
--     NumberOf         how many numbers below n are as a property says
--     SetDepends       on how many shares of a and of b a set depends, whether a mask is left, and how many shares the notion allows it
use Rattle.std.specs.Prelude.{ℕ, ◌<◌, ◌≡◌, ◌↔◌, Bool, true, not, List, eqb, length}
use Rattle.std.specs.Bool.{xor}
use Rattle.basics.specs.Folds.{parity, count, up_to}
use Rattle.wires.specs.declared.Notion.{Notion}
use Rattle.wires.specs.declared.Notion.TheVariants.{Ni, Sni}
use Rattle.wires.specs.Wires.{Wire, Input, value, flip_a, flip_b}

abbrev pub sum_shown : ℕ → ℕ → Input → (ℕ → Bool) → List Wire → Bool
sum_shown n m x r v = parity (λ w. value n m x r w.terms) v

abbrev pub Changes : ℕ → ℕ → List Wire → (Input → Input) → ((ℕ → Bool) → ℕ → Bool) → Type 0
Changes n m v input setting = (x : Input) × (r : ℕ → Bool) × (sum_shown n m x r v ≡ sum_shown n m (input x) (setting r) v → ⊥)

abbrev pub ChangesWithA : ℕ → ℕ → List Wire → ℕ → Type 0
ChangesWithA n m v i = Changes n m v (flip_a i) (λ r. r)

abbrev pub ChangesWithB : ℕ → ℕ → List Wire → ℕ → Type 0
ChangesWithB n m v j = Changes n m v (flip_b j) (λ r. r)

abbrev pub ChangesWithMask : ℕ → ℕ → List Wire → ℕ → Type 0
ChangesWithMask n m v k = Changes n m v (λ x. x) (λ r i. xor (r i) (eqb i k))

pub record NumberOf (n : ℕ) (P : ℕ → Type 0) (number : ℕ) : Type 0 where
  pub test : ℕ → Bool
  pub exactly : (i : ℕ) → i < n → (test i ≡ true) ↔ P i
  pub counted : number ≡ count test (up_to n)

-- a set is allowed as many shares of each operand as it has wires under NI, and as it has inner wires under SNI
pub record SetDepends (notion : Notion) (n m : ℕ) (v : List Wire) (of_a of_b most : ℕ) (left : Bool) : Type 0 where
  pub shares_of_a : NumberOf n (ChangesWithA n m v) of_a
  pub shares_of_b : NumberOf n (ChangesWithB n m v) of_b
  pub mask_left : (left ≡ true) ↔ ((k : ℕ) × (k < m) × ChangesWithMask n m v k)
  pub allowed-ni : notion ≡ Ni → most ≡ length v
  pub allowed-sni : notion ≡ Sni → most ≡ count (λ w. not w.outer) v
