-- Examples, proved by running the definitions.
--     text_parts           the part of each wire of text A's first line
--     part-inside          a part within the text, and one that ends with it
--     part-outside         a part that ends a byte past the text: 22
--     empty-parts          an empty part at the text's very end, and one past it
--     wire_beyond          a wire beyond the table, and any wire of an empty table: 21
--     wrong_lengths        a length that is no multiple of 24, and one over 12,288 bytes: 12; 12,288 bytes
--     refusals_in_order    12 before 21 and before 22; 21 for a wire beyond a record whose part is outside the text
--     read_into_a_table    text C read into a table with bytes to spare, which stay as they were, and into one that its wires fill
--     table_too_short      text C with a table a byte too short: 10 at the text's length, the table as it was
--     refused_untouched    a text that is refused leaves the table as it was
--     wires_512, wires_513     512 wires are read; 513 are refused with 10 at the text's length, though the table would hold them
--     highest_order        order 7 has 8 shares; the mask count is the highest declared number and 1
use Prim.Native.Nat.{ℕ, zero, suc}
use mathlib.Core.Path.{◌≡◌, refl}
use mathlib.Core.List.{List, [], ◌∷◌, ◌++◌, map}
use lib.ListN.{replicate}
use Rattle.basics.specs.Told.{values, refusal}
use Rattle.records.specs.Words.{bit, bytes_of}
use Rattle.description.specs.Header.{order_line, masks_line, names_from}
use Rattle.description.specs.Listing.{encode}
use Rattle.description.specs.Run.{run}
use Rattle.basics.specs.Quoted.{bytes}
use Rattle.description.proofs.Samples.{text_a, text_c}
use Rattle.reader.specs.Answers.{ReadTold, gives, refused, read_text, part_check, text_part}

-- ---- the text part

-- the record of a wire of no terms, with the offset and length of its part
abbrev placed : ℕ → ℕ → List ℕ
placed offset size = replicate 20 0 ++ bytes_of 2 offset ++ bytes_of 2 size

-- 6 bytes
abbrev text : List ℕ
text = bytes "a0 b0\n"

abbrev Found : List ℕ → ℕ → List ℕ → Type 0
Found table wire answer = part_check text table wire ≡ values answer

abbrev Refused : List ℕ → ℕ → ℕ → Type 0
Refused table wire number = (part_check text table wire ≡ refusal number) × (text_part text table wire ≡ [])

pub text_parts : map (text_part text_a (placed 23 3 ++ placed 27 2 ++ placed 23 6)) (0 ∷ 1 ∷ 2 ∷ []) ≡ bytes "s00" ∷ bytes "r0" ∷ bytes "s00 r0" ∷ []
text_parts = refl

pub part-inside :
    Found (placed 3 2) 0 (3 ∷ 2 ∷ [])
    × (text_part text (placed 3 2) 0 ≡ bytes "b0")
    × Found (placed 3 3) 0 (3 ∷ 3 ∷ [])
    × (text_part text (placed 3 3) 0 ≡ bytes "b0\n")
    × Found (placed 0 6) 0 (0 ∷ 6 ∷ [])
    × (text_part text (placed 0 6) 0 ≡ text)
part-inside = (refl, refl, refl, refl, refl, refl)

-- by both bytes of the offset and of the length
pub part-outside :
    Refused (placed 3 4) 0 22
    × Refused (placed 0 7) 0 22
    × Refused (placed 256 1) 0 22
    × Refused (placed 0 256) 0 22
    × Refused (placed 65535 65535) 0 22
part-outside = ((refl, refl), (refl, refl), (refl, refl), (refl, refl), (refl, refl))

pub empty-parts :
    Found (placed 6 0) 0 (6 ∷ 0 ∷ [])
    × (text_part text (placed 6 0) 0 ≡ [])
    × Refused (placed 7 0) 0 22
empty-parts = (refl, refl, (refl, refl))

pub wire_beyond :
    Refused (placed 0 2) 1 21
    × Refused (placed 0 2 ++ placed 3 2) 2 21
    × Refused [] 0 21
wire_beyond = ((refl, refl), (refl, refl), (refl, refl))

pub wrong_lengths :
    Refused (placed 0 2 ++ 0 ∷ []) 0 12
    × Refused (replicate 23 0) 0 12
    × Refused (replicate 12312 0) 0 12
    × Found (replicate 12288 0) 511 (0 ∷ 0 ∷ [])
wrong_lengths = ((refl, refl), (refl, refl), (refl, refl), refl)

-- the table's length first, whatever the wire and its part, then the wire
pub refusals_in_order :
    Refused (placed 0 2 ++ 0 ∷ []) 1 12
    × Refused (replicate 12312 0) 513 12
    × Refused (placed 3 4 ++ 0 ∷ []) 0 12
    × Refused (placed 3 4) 1 21
    × Refused (placed 3 4) 0 22
refusals_in_order = ((refl, refl), (refl, refl), (refl, refl), (refl, refl), (refl, refl))

-- ---- reading

abbrev Read : List ℕ → List ℕ → ReadTold → List ℕ → Type 0
Read text table told held = read_text text table ≡ record { told = told; held = held }

-- shares of a and of b that a wire names, with neither products nor masks; whether it is outer, and its line; offset and length of its part
abbrev shares_only : ℕ → ℕ → ℕ → ℕ → ℕ → ℕ → List ℕ
shares_only a b outer line offset size = replicate 16 0 ++ a ∷ b ∷ outer ∷ line ∷ offset ∷ 0 ∷ size ∷ 0 ∷ []

-- 6 records, 144 bytes
abbrev records_c : List ℕ
records_c =
    shares_only 1 0 0 0 21 2 ++ shares_only 0 1 0 0 24 2 ++ shares_only 1 1 1 0 21 5
    ++ shares_only 2 0 0 0 27 2 ++ shares_only 0 2 0 0 30 2 ++ shares_only 2 2 1 1 27 5

pub read_into_a_table :
    Read text_c (replicate 150 7) (gives 1 2 0 6) (records_c ++ replicate 6 7)
    × Read text_c (replicate 144 7) (gives 1 2 0 6) records_c
unfolding order_line masks_line names_from run bit encode
read_into_a_table = (refl, refl)

pub table_too_short : Read text_c (replicate 143 7) (refused 10 33) (replicate 143 7)
unfolding order_line masks_line names_from run bit
table_too_short = refl

pub refused_untouched :
    Read (bytes "ORDER = 1") (replicate 143 7) (refused 3 9) (replicate 143 7)
    × Read (bytes "ORDER = 1") [] (refused 3 9) []
    × Read (bytes "ORDER = 1\nMASKS = []\na0\n") [] (refused 9 24) []
unfolding order_line masks_line names_from run bit
refused_untouched = (refl, refl, refl)

-- a line of so many uses of one share, and then a line of one share
abbrev uses : ℕ → List ℕ
uses zero = bytes "\na1\n"
uses (suc m) = bytes "a0 " ++ uses m

-- from two uses on, as many wires as uses and two
abbrev many_wires : ℕ → List ℕ
many_wires m = bytes "ORDER = 1\nMASKS = []\n" ++ uses m

pub wires_512 : (read_text (many_wires 510) (replicate 12288 0)).told ≡ gives 1 2 0 512
unfolding order_line masks_line names_from run bit
wires_512 = refl

pub wires_513 : (read_text (many_wires 511) (replicate 12312 0)).told ≡ refused 10 1558
unfolding order_line masks_line names_from run bit
wires_513 = refl

pub highest_order :
    (read_text (bytes "ORDER = 7\nMASKS = [r63, r2]\na0\na1\na2\na3\na4\na5\na6\na7 r63\n") (replicate 432 7)).told ≡ gives 7 8 64 17
unfolding order_line masks_line names_from run bit
highest_order = refl
