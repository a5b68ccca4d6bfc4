-- The operands that leak by a set, as a report names them (which operand leaks), over what the set dependence is to tell.
--     operands_named, operands       the operands that leak by a set, from what is told of its dependence
--     NamesOperands                 which operand is named, and what that says of the set
use Rattle.std.specs.Prelude.{ℕ, ◌≡◌, ◌↔◌, ◌⊎◌, Bool, true, false, List, [], ◌∷◌, ltb}
use Rattle.basics.specs.Quoted.{bytes}
use Rattle.basics.specs.Told.{Told, values, refusal}
use Rattle.verdict_answers.specs.Dependence.{LeaksA, LeaksB}

-- the operands whose count exceeds what the notion allows the set; of a set that a verdict shows one does (`says`)
abbrev pub operands_named : Bool → Bool → List ℕ
operands_named true true = bytes " by both"
operands_named true false = bytes " by a"
operands_named false true = bytes " by b"
operands_named false false = []

-- the counts of a and of b, and what the notion allows
abbrev pub operands : Told → List ℕ
operands (values (of_a ∷ of_b ∷ most ∷ more)) = operands_named (ltb most of_a) (ltb most of_b)
operands (values (of_a ∷ of_b ∷ [])) = []
operands (values (of_a ∷ [])) = []
operands (values []) = []
operands (refusal number) = []

-- operand a is named exactly when the set admits no choice of shares even if every share of b may be chosen, b the other way round, and one of the
-- three words always stands
pub record NamesOperands (table : List ℕ) (shares masks notion : ℕ) (set word : List ℕ) : Type 0 where
  pub names_a : ((word ≡ bytes " by a") ⊎ (word ≡ bytes " by both")) ↔ LeaksA table shares masks notion set
  pub names_b : ((word ≡ bytes " by b") ⊎ (word ≡ bytes " by both")) ↔ LeaksB table shares masks notion set
  pub stands : (word ≡ bytes " by a") ⊎ ((word ≡ bytes " by b") ⊎ (word ≡ bytes " by both"))
