-- A number in base ten, as its digits' bytes.
--     digit_byte d        the byte of a digit
--     digits most n      the digits of n, at most so many
--     decimal n          the digits of n, without leading zeros
use Rattle.std.specs.Prelude.{ℕ, zero, suc, ◌+◌, ◌/◌, ◌%◌, cond, List, [], ◌∷◌, ◌++◌, ltb}

abbrev pub digit_byte : ℕ → ℕ
digit_byte d = 48 + d

abbrev pub digits : ℕ → ℕ → List ℕ
digits zero n = []
digits (suc most) n = cond (ltb n 10) (digit_byte n ∷ []) (digits most (n / 10) ++ (digit_byte (n % 10) ∷ []))

-- a number n has no more than n + 1 digits
unfoldable pub decimal : ℕ → List ℕ
decimal n = digits (suc n) n
