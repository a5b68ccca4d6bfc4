-- The bytes of a description (scope, "The description text").
--     space, line_end, opening, closing, bar, comma, bracket, letter_s, letter_a, letter_b, letter_r    the bytes with a meaning
--     order_word, masks_word     what the two header lines begin with
--     digit, figure            whether a byte is a digit; the digit of a number below ten
--     parts                    the bytes that end a symbol
--     word                     the longest run of bytes that do not
--     ended                    whether a line ends here: at a line end, or where the text does
--     same                     whether two runs of bytes are the same
use Rattle.std.specs.Prelude.{ℕ, ◌+◌, Bool, true, false, cond, ◌&&◌, ◌||◌, List, [], ◌∷◌, eqb, leb}

abbrev pub space : ℕ
space = 32

abbrev pub line_end : ℕ
line_end = 10

abbrev pub opening : ℕ
opening = 40

abbrev pub closing : ℕ
closing = 41

abbrev pub bar : ℕ
bar = 124

abbrev pub comma : ℕ
comma = 44

abbrev pub bracket : ℕ
bracket = 93

abbrev pub letter_s : ℕ
letter_s = 115

abbrev pub letter_a : ℕ
letter_a = 97

abbrev pub letter_b : ℕ
letter_b = 98

abbrev pub letter_r : ℕ
letter_r = 114

-- `ORDER = `
abbrev pub order_word : List ℕ
order_word = 79 ∷ 82 ∷ 68 ∷ 69 ∷ 82 ∷ 32 ∷ 61 ∷ 32 ∷ []

-- `MASKS = [`
abbrev pub masks_word : List ℕ
masks_word = 77 ∷ 65 ∷ 83 ∷ 75 ∷ 83 ∷ 32 ∷ 61 ∷ 32 ∷ 91 ∷ []

abbrev pub digit : ℕ → Bool
digit c = leb 48 c && leb c 57

abbrev pub figure : ℕ → ℕ
figure n = 48 + n

-- space, parenthesis, bar or line end
abbrev pub parts : ℕ → Bool
parts c = eqb c space || eqb c opening || eqb c closing || eqb c bar || eqb c line_end

abbrev pub word : List ℕ → List ℕ
word [] = []
word (c ∷ l) = cond (parts c) [] (c ∷ word l)

abbrev pub ended : List ℕ → Bool
ended [] = true
ended (c ∷ l) = eqb c line_end

abbrev pub same : List ℕ → List ℕ → Bool
same [] [] = true
same [] (d ∷ l) = false
same (c ∷ k) [] = false
same (c ∷ k) (d ∷ l) = eqb c d && same k l
