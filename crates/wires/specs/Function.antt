-- Whether the outer wires add up to a function of the two operands (scope, "Breaking sets", last paragraph).
--     operand         an operand: the sum, without carry, of its shares
--     function_of      the functions by number: 1, the product of the two operands; 2, their sum; 3, operand a
--     outers          the outer wires of a table
--     AddUpTo         for every input and every mask setting the outer wires' values add up to the function
--     function_terms   the terms whose value is the function
--     blank           no bit is set
--     computes        the outer wires' terms and the function's leave no bit when added: a test that computes
use Rattle.std.specs.Prelude.{ℕ, ◌≡◌, Bool, false, cond, ◌&&◌, ◌||◌, not, List, eqb}
use Rattle.std.specs.Bool.{xor}
use Rattle.basics.specs.Folds.{parity, some, keep, up_to}
use Rattle.wires.specs.Wires.{Terms, Wire, Input, value, plus, total, masked, depends_a, depends_b}

abbrev pub operand : ℕ → (ℕ → Bool) → Bool
operand n shares = parity shares (up_to n)

abbrev pub function_of : ℕ → ℕ → Input → Bool
function_of function n x =
    cond (eqb function 1) (operand n x.of_a && operand n x.of_b)
    (cond (eqb function 2) (xor (operand n x.of_a) (operand n x.of_b))
    (operand n x.of_a))

abbrev pub outers : List Wire → List Wire
outers = keep (λ w. w.outer)

abbrev pub AddUpTo : ℕ → ℕ → ℕ → List Wire → Type 0
AddUpTo function n m table = (x : Input) (r : ℕ → Bool) → parity (λ w. value n m x r w.terms) (outers table) ≡ function_of function n x

abbrev pub function_terms : ℕ → Terms
function_terms function = record {
  product = λ i j. eqb function 1;
  share_a = λ i. not (eqb function 1);
  share_b = λ j. eqb function 2;
  mask = λ k. false;
}

abbrev pub blank : ℕ → ℕ → Terms → Bool
blank n m t = not (some (depends_a n t) (up_to n) || some (depends_b n t) (up_to n) || masked m t)

unfoldable pub computes : ℕ → ℕ → ℕ → List Wire → Bool
computes function n m table = blank n m (plus (total (outers table)) (function_terms function))
