-- Examples, proved by running the definitions (scope, "Report program and examples").
--     text_a, text_b, text_c                the scope's texts
--     text_A, text_B, text_C             their order, mask count and wires
--     parts_A, parts_B                   the parts of the text that compute the wires
--     last_record                        the record of A's last wire
--     single_symbols, symbols_again      a symbol alone on its line; symbols used again, and cancelled
--     parted_by_parentheses              a parenthesis parts symbols as a space does
--     lines_skipped                      blank lines, and a last line without its end
--     orders_read                        orders 2 and 7, and which mask counts
--     headers_refused                    a header line that is wrong or absent
--     line-counts-refused                output lines too few, a line too many
--     parentheses_refused, bars_refused  nothing inside, none open, one still open; a bar
--     symbols-refused                    no such symbol, a share beyond the order, a mask not declared
--     beginnings_refused                 bytes that only begin as a symbol, or go on after one; a letter of none
--     refusal-numbers                    the number of each refusal
--     share-digits                       the digits 0 to 9 write a share, and nothing else does
--     depths                             16 deep and 17 deep
--     lengths                            4,096 bytes and 4,097
use Prim.Native.Nat.{ℕ, ◌+◌}
use Prim.Native.String.{String}
use mathlib.Core.Path.{◌≡◌, refl}
use mathlib.Core.Bool.{true, false}
use mathlib.Core.List.{List, [], ◌∷◌, ◌++◌, map}
use lib.ListN.{length, take, drop, replicate}
use Rattle.basics.specs.Folds.{up_to}
use Rattle.basics.specs.Quoted.{bytes}
use Rattle.wires.specs.declared.Symbol.{Symbol}
use Rattle.wires.specs.declared.Symbol.TheVariants.{Product, ShareA, ShareB, Mask}
use Rattle.records.specs.Words.{bit}
use Rattle.description.specs.Bytes.{space}
use Rattle.description.specs.Symbols.{share_figures, share_figure}
use Rattle.description.specs.Header.{order_line, masks_line, names_from}
use Rattle.description.specs.Listing.{encode}
use Rattle.description.specs.Grammar.{sum_of}
use Rattle.description.specs.Run.{Reading, read, turned_down, refusal_number, reading, run}
use Rattle.description.specs.declared.Listed.{Listed}
use Rattle.description.specs.declared.Refusal.TheVariants.{TextTooLong, WrongOrderLine, WrongMasksLine, NoSuchSymbol, MaskNotDeclared}
use Rattle.description.specs.declared.Refusal.TheVariants.{WrongParenthesis, Bar, NestedTooDeep, WrongLineCount, TooManyWires}

-- ---- texts that are read

-- the symbols that the sum adds up; offset and length of the part
abbrev inner : List Symbol → ℕ → ℕ → Listed
inner symbols offset size = record { sum = sum_of symbols; outer = false; line = 0; offset = offset; length = size }

-- the output line first
abbrev outer : ℕ → List Symbol → ℕ → ℕ → Listed
outer line symbols offset size = record { sum = sum_of symbols; outer = true; line = line; offset = offset; length = size }

abbrev wires_read : Reading → List Listed
wires_read (read order masks ws) = ws
wires_read (turned_down why at) = []

-- the text's parts, as its wires name them, are these
abbrev Parts : List ℕ → List String → Type 0
Parts text parts = map (λ w. take w.length (drop w.offset text)) (wires_read (reading text)) ≡ map bytes parts

abbrev pub text_a : List ℕ
text_a = bytes "ORDER = 1\nMASKS = [r0]\ns00 r0\ns11 ((r0 s01) s10)\n"

abbrev pub text_b : List ℕ
text_b = bytes "ORDER = 1\nMASKS = [r0]\ns00 r0\ns11 (s01 s10) r0\n"

abbrev pub text_c : List ℕ
text_c = bytes "ORDER = 1\nMASKS = []\na0 b0\na1 b1\n"

pub text_A : reading text_a
    ≡ read 1 1 (inner (Product 0 0 ∷ []) 23 3 ∷ inner (Mask 0 ∷ []) 27 2 ∷ outer 0 (Product 0 0 ∷ Mask 0 ∷ []) 23 6 ∷ inner (Product 1 1 ∷ []) 30 3 ∷ inner (Product 0 1 ∷ []) 39 3
    ∷ inner (Product 0 1 ∷ Mask 0 ∷ []) 36 6 ∷ inner (Product 1 0 ∷ []) 44 3 ∷ inner (Product 0 1 ∷ Product 1 0 ∷ Mask 0 ∷ []) 35 12 ∷ outer 1 (Product 0 1 ∷ Product 1 0 ∷ Product 1 1 ∷ Mask 0 ∷ []) 30 18 ∷ [])
unfolding order_line masks_line names_from run bit
text_A = refl

pub parts_A : Parts text_a
    ("s00" ∷ "r0" ∷ "s00 r0" ∷ "s11" ∷ "s01" ∷ "r0 s01" ∷ "s10" ∷ "(r0 s01) s10" ∷ "s11 ((r0 s01) s10)" ∷ [])
unfolding order_line masks_line names_from run bit
parts_A = refl

pub last_record : encode (outer 1 (Product 0 1 ∷ Product 1 0 ∷ Product 1 1 ∷ Mask 0 ∷ []) 30 18)
    ≡ 2 ∷ 3 ∷ 0 ∷ 0 ∷ 0 ∷ 0 ∷ 0 ∷ 0 ∷ 1 ∷ 0 ∷ 0 ∷ 0 ∷ 0 ∷ 0 ∷ 0 ∷ 0 ∷ 0 ∷ 0 ∷ 1 ∷ 1 ∷ 30 ∷ 0 ∷ 18 ∷ 0 ∷ []
unfolding encode
last_record = refl

pub text_B : reading text_b
    ≡ read 1 1 (inner (Product 0 0 ∷ []) 23 3 ∷ inner (Mask 0 ∷ []) 27 2 ∷ outer 0 (Product 0 0 ∷ Mask 0 ∷ []) 23 6 ∷ inner (Product 1 1 ∷ []) 30 3 ∷ inner (Product 0 1 ∷ []) 35 3
    ∷ inner (Product 1 0 ∷ []) 39 3 ∷ inner (Product 0 1 ∷ Product 1 0 ∷ []) 35 7 ∷ inner (Product 0 1 ∷ Product 1 0 ∷ Product 1 1 ∷ []) 30 13 ∷ outer 1 (Product 0 1 ∷ Product 1 0 ∷ Product 1 1 ∷ Mask 0 ∷ []) 30 16 ∷ [])
unfolding order_line masks_line names_from run bit
text_B = refl

pub parts_B : Parts text_b
    ("s00" ∷ "r0" ∷ "s00 r0" ∷ "s11" ∷ "s01" ∷ "s10" ∷ "s01 s10" ∷ "s11 (s01 s10)" ∷ "s11 (s01 s10) r0" ∷ [])
unfolding order_line masks_line names_from run bit
parts_B = refl

pub text_C : reading text_c
    ≡ read 1 0 (inner (ShareA 0 ∷ []) 21 2 ∷ inner (ShareB 0 ∷ []) 24 2 ∷ outer 0 (ShareA 0 ∷ ShareB 0 ∷ []) 21 5 ∷ inner (ShareA 1 ∷ []) 27 2 ∷ inner (ShareB 1 ∷ []) 30 2
    ∷ outer 1 (ShareA 1 ∷ ShareB 1 ∷ []) 27 5 ∷ [])
unfolding order_line masks_line names_from run bit
text_C = refl

-- output lines of order 1 with mask 0; they begin at byte 23
abbrev lines : String → List ℕ
lines s = bytes "ORDER = 1\nMASKS = [r0]\n" ++ bytes s

abbrev Wires : String → List Listed → Type 0
Wires s ws = reading (lines s) ≡ read 1 1 ws

-- a line that is a single symbol, parentheses apart: an outer wire of its own, with the symbol on that line as its part
pub single_symbols : Wires "((a0))\na1\n" (inner (ShareA 0 ∷ []) 25 2 ∷ outer 0 (ShareA 0 ∷ []) 25 2 ∷ inner (ShareA 1 ∷ []) 30 2 ∷ outer 1 (ShareA 1 ∷ []) 30 2 ∷ [])
    × Wires "r0\nr0\n" (inner (Mask 0 ∷ []) 23 2 ∷ outer 0 (Mask 0 ∷ []) 23 2 ∷ outer 1 (Mask 0 ∷ []) 26 2 ∷ [])
unfolding order_line masks_line names_from run bit
single_symbols = (refl, refl)

-- later uses list no wire; a symbol added to itself leaves a wire with nothing in it
pub symbols_again : Wires "a0 b0\nb0 a0\n" (inner (ShareA 0 ∷ []) 23 2 ∷ inner (ShareB 0 ∷ []) 26 2 ∷ outer 0 (ShareA 0 ∷ ShareB 0 ∷ []) 23 5 ∷ outer 1 (ShareA 0 ∷ ShareB 0 ∷ []) 29 5 ∷ [])
    × Wires "a0 a0\na1\n" (inner (ShareA 0 ∷ []) 23 2 ∷ outer 0 [] 23 5 ∷ inner (ShareA 1 ∷ []) 29 2 ∷ outer 1 (ShareA 1 ∷ []) 29 2 ∷ [])
unfolding order_line masks_line names_from run bit
symbols_again = (refl, refl)

pub parted_by_parentheses : Parts (lines "s01(s10)\n(a0)b1\n") ("s01" ∷ "s10" ∷ "s01(s10)" ∷ "a0" ∷ "b1" ∷ "(a0)b1" ∷ [])
unfolding order_line masks_line names_from run bit
parted_by_parentheses = refl

pub lines_skipped : Parts (lines "\n  \n a0  b0 \n\na1(b1)") ("a0" ∷ "b0" ∷ "a0  b0" ∷ "a1" ∷ "b1" ∷ "a1(b1)" ∷ [])
    × Parts (lines "a0 b0\na1 b1\n\n   \n") ("a0" ∷ "b0" ∷ "a0 b0" ∷ "a1" ∷ "b1" ∷ "a1 b1" ∷ [])
unfolding order_line masks_line names_from run bit
lines_skipped = (refl, refl)

-- the number and the offset of a refusal; the order, mask count and wire count of a text that is read
abbrev answer : Reading → List ℕ
answer (read order masks ws) = order ∷ masks ∷ length ws ∷ []
answer (turned_down why at) = refusal_number why ∷ at ∷ []

-- masks in any order, the highest counted; every order up to the seventh
pub orders_read :
    (answer (reading (bytes "ORDER = 2\nMASKS = [r5, r12, r0]\na0 r12\na1 r5\na2\n")) ≡ 2 ∷ 13 ∷ 8 ∷ [])
    × (answer (reading (bytes "ORDER = 7\nMASKS = [r63]\na0\na1\na2\na3\na4\na5\na6\ns77\n")) ≡ 7 ∷ 64 ∷ 16 ∷ [])
unfolding order_line masks_line names_from run bit
orders_read = (refl, refl)

-- ---- texts that are turned down

abbrev Refused : List ℕ → ℕ → ℕ → Type 0
Refused text number at = answer (reading text) ≡ number ∷ at ∷ []

-- output lines, the offset counted from the first of them
abbrev LinesRefused : String → ℕ → ℕ → Type 0
LinesRefused s number at = Refused (lines s) number (23 + at)

pub headers_refused :
    Refused (bytes "") 2 0
    × Refused (bytes "ORDER = 0\nMASKS = []\n") 2 0
    × Refused (bytes "ORDER = 8\nMASKS = []\n") 2 0
    × Refused (bytes "ORDER = 10\nMASKS = []\n") 2 0
    × Refused (bytes "ORDER = 1 \nMASKS = []\n") 2 0
    × Refused (bytes "ORDER = 1") 3 9
    × Refused (bytes "ORDER = 1\n") 3 10
    × Refused (bytes "ORDER = 1\nMASKS = [ ]\n") 3 10
    × Refused (bytes "ORDER = 1\nMASKS = [r1,r0]\n") 3 10
    × Refused (bytes "ORDER = 1\nMASKS = [r1, r0, r1]\n") 3 10
    × Refused (bytes "ORDER = 1\nMASKS = [r64]\n") 3 10
    × Refused (bytes "ORDER = 1\nMASKS = []a0\na1\n") 3 10
    × Refused (bytes "ORDER = 1\nMASKS = [] \na0\na1\n") 3 10
    × Refused (bytes "ORDER = 1\nMASKS = [r0] \na0\na1\n") 3 10
    × Refused (bytes "ORDER = 1\nMASKS = [r0, ]\n") 3 10
    × Refused (bytes "ORDER = 1\nMASKS = [r0") 3 10
    × Refused (bytes "ORDER = 1\n\nMASKS = []\n") 3 10
unfolding order_line masks_line names_from run bit
headers_refused = (refl, refl, refl, refl, refl, refl, refl, refl, refl, refl, refl, refl, refl, refl, refl, refl, refl)

-- at the text's length; at the line's first byte that is no space, whatever that byte is
pub line-counts-refused :
    Refused (bytes "ORDER = 1\nMASKS = []") 9 20
    × LinesRefused "" 9 0
    × LinesRefused "a0\n \n" 9 5
    × LinesRefused "a0\na1\n  b0\n" 9 8
    × LinesRefused "a0\na1\n |" 9 7
    × LinesRefused "a0\na1\n(a0)" 9 6
    × LinesRefused "a0\na1\n)" 9 6
    × LinesRefused "a0\na1\nr64" 9 6
unfolding order_line masks_line names_from run bit
line-counts-refused = (refl, refl, refl, refl, refl, refl, refl, refl)

pub parentheses_refused :
    LinesRefused "()\na1\n" 6 1
    × LinesRefused "a0 ( ) b0\na1\n" 6 5
    × LinesRefused "a0)\na1\n" 6 2
    × LinesRefused "(a0\na1)\n" 6 3
    × LinesRefused "a0\n(a1" 6 6
    × LinesRefused "(a0" 6 3
unfolding order_line masks_line names_from run bit
parentheses_refused = (refl, refl, refl, refl, refl, refl)

pub bars_refused : LinesRefused "a0 | b0\na1\n" 7 3 × LinesRefused "a0|b0\na1\n" 7 2
unfolding order_line masks_line names_from run bit
bars_refused = (refl, refl)

-- a tab and byte 13 part nothing
pub symbols-refused :
    LinesRefused "r64\na1\n" 4 0
    × LinesRefused "r00\na1\n" 4 0
    × LinesRefused "r01\na1\n" 4 0
    × LinesRefused "r63\na1\n" 5 0
    × LinesRefused "a0 s02\na1\n" 4 3
    × LinesRefused "a0 b2\na1\n" 4 3
    × LinesRefused "s01s10\na1\n" 4 0
    × LinesRefused "a0\tb0\na1\n" 4 0
    × LinesRefused "a0 b0\r\na1\n" 4 3
unfolding order_line masks_line names_from run bit
symbols-refused = (refl, refl, refl, refl, refl, refl, refl, refl, refl)

pub beginnings_refused :
    LinesRefused "r1x\na1\n" 4 0
    × LinesRefused "r633\na1\n" 4 0
    × LinesRefused "a0 r\na1\n" 4 3
    × LinesRefused "a0 s\na1\n" 4 3
    × LinesRefused "a0 s0\na1\n" 4 3
    × LinesRefused "a0 a\na1\n" 4 3
    × LinesRefused "a0 b\na1\n" 4 3
    × LinesRefused "a0 x\na1\n" 4 3
    × LinesRefused "a0,b0\na1\n" 4 0
unfolding order_line masks_line names_from run bit
beginnings_refused = (refl, refl, refl, refl, refl, refl, refl, refl, refl)

pub depths :
    Parts (lines "((((((((((((((((a0))))))))))))))))\na1\n") ("a0" ∷ "a0" ∷ "a1" ∷ "a1" ∷ [])
    × LinesRefused "(((((((((((((((((a0)))))))))))))))))\na1\n" 8 16
unfolding order_line masks_line names_from run bit
depths = (refl, refl)

pub lengths :
    Refused (replicate 4097 space) 1 4096
    × Refused (replicate 4096 space) 2 0
    × Refused (lines "a0\na1\n" ++ replicate 4068 space) 1 4096
    × (answer (reading (lines "a0\na1\n" ++ replicate 4067 space)) ≡ 1 ∷ 1 ∷ 4 ∷ [])
unfolding order_line masks_line names_from run bit
lengths = (refl, refl, refl, refl)

pub refusal-numbers : map refusal_number
    (TextTooLong ∷ WrongOrderLine ∷ WrongMasksLine ∷ NoSuchSymbol ∷ MaskNotDeclared ∷ WrongParenthesis ∷ Bar ∷ NestedTooDeep ∷ WrongLineCount
    ∷ TooManyWires ∷ [])
    ≡ 1 ∷ 2 ∷ 3 ∷ 4 ∷ 5 ∷ 6 ∷ 7 ∷ 8 ∷ 9 ∷ 10 ∷ []
refusal-numbers = refl

pub share-digits : (share_figures ≡ 10) × (map share_figure (up_to share_figures) ≡ bytes "0123456789")
unfolding up_to
share-digits = (refl, refl)
