-- A number as a word of digits.
--     is_number              digits alone, and the first no 0 unless it stands alone
--     large                 from here on a number is large: it has nineteen digits
--     with_digit             a number with a digit more, as far as it is not large
--     number_from, number_of  the number of a word of digits, from a number on, and from its first digit on
use Rattle.std.specs.Prelude.{ℕ, ◌+◌, ◌*◌, ◌-◌, Bool, false, cond, ◌&&◌, not, List, [], ◌∷◌, eqb, leb}
use Rattle.basics.specs.Folds.{every}
use Rattle.description.specs.Bytes.{digit}

abbrev pub is_number : List ℕ → Bool
is_number [] = false
is_number (c ∷ []) = digit c
is_number (c ∷ d ∷ l) = not (eqb c 48) && every digit (c ∷ d ∷ l)

abbrev pub large : ℕ
large = 1000000000000000000

abbrev pub with_digit : ℕ → ℕ → ℕ
with_digit number c = cond (leb large number) number (10 * number + (c - 48))

abbrev pub number_from : ℕ → List ℕ → ℕ
number_from number [] = number
number_from number (c ∷ l) = number_from (with_digit number c) l

abbrev pub number_of : List ℕ → ℕ
number_of = number_from 0
