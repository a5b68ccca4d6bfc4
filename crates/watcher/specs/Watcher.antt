-- What a watcher sees (scope, "What a watcher sees"; demand 3), for n shares and m masks. The watched wires are a list v. An input and the value of a
-- wire are those of `wires`; a watcher is what the field calls an adversary, a choice of shares what a simulator is given.
--     bit_lists m          every list of m bits, once: the mask settings
--     mask_of r            the bit that setting r gives to each mask
--     shown n m x r v     the bits that the watched wires show: their values under input x and setting r
--     equal p q           the two lists of bits are equal
--     comes n m x v p     from how many mask settings pattern p comes under input x
--     Agree               two inputs agree on chosen shares
--     ChoiceWithin        shares of a and of b, at most so many of each, such that inputs that agree on them give every pattern from equally many
--                         mask settings
--     Choice              no more of each than the notion allows the set
--     ChoiceByA, ChoiceByB     no more of a, of b, than the notion allows the set, where every share of the other operand may be chosen
use Rattle.std.specs.Prelude.{ℕ, zero, suc, ◌≤◌, ◌<◌, ◌≡◌, Bool, true, false, ◌&&◌, not, List, [], ◌∷◌, ◌++◌, map, length, get_or}
use Rattle.std.specs.Bool.{xor}
use Rattle.basics.specs.Folds.{count, up_to}
use Rattle.wires.specs.declared.Notion.{Notion}
use Rattle.wires.specs.Wires.{Wire, Input, value, allowed}

-- a mask setting gives a bit to each mask numbered below the mask count; with no masks there is one setting
unfoldable pub bit_lists : ℕ → List (List Bool)
bit_lists zero = [] ∷ []
bit_lists (suc m) = map (λ r. false ∷ r) (bit_lists m) ++ map (λ r. true ∷ r) (bit_lists m)

abbrev pub mask_of : List Bool → ℕ → Bool
mask_of r k = get_or r k false

abbrev pub shown : ℕ → ℕ → Input → List Bool → List Wire → List Bool
shown n m x r v = map (λ w. value n m x (mask_of r) w.terms) v

abbrev pub equal : List Bool → List Bool → Bool
equal [] [] = true
equal [] (c ∷ q) = false
equal (b ∷ p) [] = false
equal (b ∷ p) (c ∷ q) = not (xor b c) && equal p q

-- a pattern comes from a mask setting, under an input, when each wire of the set has its bit as its value
unfoldable pub comes : ℕ → ℕ → Input → List Wire → List Bool → ℕ
comes n m x v p = count (λ r. equal (shown n m x r v) p) (bit_lists m)

-- each of the chosen shares has the same bit in both
pub record Agree (n : ℕ) (chosen_a chosen_b : ℕ → Bool) (x y : Input) : Type 0 where
  pub on_a : (i : ℕ) → i < n → chosen_a i ≡ true → x.of_a i ≡ y.of_a i
  pub on_b : (j : ℕ) → j < n → chosen_b j ≡ true → x.of_b j ≡ y.of_b j

-- the choice is made for the set, before the inputs and the pattern are known
pub record ChoiceWithin (most_a most_b n m : ℕ) (v : List Wire) : Type 0 where
  pub chosen_a : ℕ → Bool
  pub chosen_b : ℕ → Bool
  pub few_a : count chosen_a (up_to n) ≤ most_a
  pub few_b : count chosen_b (up_to n) ≤ most_b
  pub blind : (x y : Input) → Agree n chosen_a chosen_b x y → (p : List Bool) → length p ≡ length v → comes n m x v p ≡ comes n m y v p

abbrev pub Choice : Notion → ℕ → ℕ → List Wire → Type 0
Choice notion n m v = ChoiceWithin (allowed notion v) (allowed notion v) n m v

-- of the other operand all n shares may be chosen
abbrev pub ChoiceByA : Notion → ℕ → ℕ → List Wire → Type 0
ChoiceByA notion n m v = ChoiceWithin (allowed notion v) n n m v

abbrev pub ChoiceByB : Notion → ℕ → ℕ → List Wire → Type 0
ChoiceByB notion n m v = ChoiceWithin n (allowed notion v) n m v
