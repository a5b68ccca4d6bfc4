-- Symbols (scope, "The description text"): `s` and two digits i j, the product of share i of a and share j of b; `a` or `b` and one digit, that
-- share; `r` and a number, that mask.
--     name_length k, mask_name k     how many bytes the name of mask k has, and which
--     share_figures             how many shares a byte can write
--     share_figure i, share_of c     the byte that writes share i, and the share that byte c writes
--     max_mask                  the highest number of a mask
--     spelling s               the bytes of a symbol
--     formed s                 whether a symbol can be spelled
--     symbol_length s           how many bytes that are
--     mask_number, mask_at l     the mask whose name stands at the start of l: r and a number 0 to 63 without leading zeros
--     share_digit n c           whether c writes a share below n
--     product_read, share_read, named_read     what follows the letter of a product, of a share; a mask's name and nothing after it
--     symbol_read n d w         what the run of bytes w is, for n shares and the declared masks d
use Rattle.std.specs.Prelude.{ℕ, ◌+◌, ◌*◌, ◌-◌, ◌/◌, ◌%◌, Bool, cond, ◌&&◌, ◌||◌, List, [], ◌∷◌, eqb, ltb, leb, length, Option, Some, None, Result, Ok, Err}
use Rattle.limits.specs.Limits.{max_masks}
use Rattle.wires.specs.declared.Symbol.{Symbol}
use Rattle.wires.specs.declared.Symbol.TheVariants.{Product, ShareA, ShareB, Mask}
use Rattle.records.specs.Words.{bit}
use Rattle.description.specs.Bytes.{letter_s, letter_a, letter_b, letter_r, digit, figure}
use Rattle.description.specs.declared.SymbolFault.{SymbolFault}
use Rattle.description.specs.declared.SymbolFault.TheVariants.{NoSuch, NotDeclared}

abbrev pub name_length : ℕ → ℕ
name_length k = cond (ltb k 10) 2 3

abbrev pub mask_name : ℕ → List ℕ
mask_name k = letter_r ∷ cond (ltb k 10) (figure k ∷ []) (figure (k / 10) ∷ figure (k % 10) ∷ [])

-- a digit for a share
abbrev pub share_figures : ℕ
share_figures = 10

abbrev pub share_figure : ℕ → ℕ
share_figure i = figure i

abbrev pub share_of : ℕ → ℕ
share_of c = c - 48

-- the highest number of a mask
abbrev pub max_mask : ℕ
max_mask = max_masks - 1

abbrev pub spelling : Symbol → List ℕ
spelling (Product i j) = letter_s ∷ share_figure i ∷ share_figure j ∷ []
spelling (ShareA i) = letter_a ∷ share_figure i ∷ []
spelling (ShareB j) = letter_b ∷ share_figure j ∷ []
spelling (Mask k) = mask_name k

-- a share that a byte can write, a mask's number 0 to 63
abbrev pub formed : Symbol → Bool
formed (Product i j) = ltb i share_figures && ltb j share_figures
formed (ShareA i) = ltb i share_figures
formed (ShareB j) = ltb j share_figures
formed (Mask k) = leb k max_mask

abbrev pub symbol_length : Symbol → ℕ
symbol_length (Product i j) = 3
symbol_length (ShareA i) = 2
symbol_length (ShareB j) = 2
symbol_length (Mask k) = name_length k

-- a name takes a second digit where one stands; the first is then no 0, and the number at most 63
abbrev pub mask_number : ℕ → List ℕ → Option ℕ
mask_number i [] = Some (i - 48)
mask_number i (j ∷ l) =
    cond (digit j)
    (cond (eqb i 48 || ltb max_mask (10 * (i - 48) + (j - 48))) None (Some (10 * (i - 48) + (j - 48))))
    (Some (i - 48))

abbrev pub mask_at : List ℕ → Option ℕ
mask_at [] = None
mask_at (c ∷ []) = None
mask_at (c ∷ i ∷ l) = cond (eqb c letter_r && digit i) (mask_number i l) None

-- a byte that writes a share, and the share is below n
abbrev pub share_digit : ℕ → ℕ → Bool
share_digit n c = eqb (share_figure (share_of c)) c && ltb (share_of c) n

abbrev pub product_read : ℕ → List ℕ → Result Symbol SymbolFault
product_read n [] = Err NoSuch
product_read n (i ∷ []) = Err NoSuch
product_read n (i ∷ j ∷ []) = cond (share_digit n i && share_digit n j) (Ok (Product (share_of i) (share_of j))) (Err NoSuch)
product_read n (i ∷ j ∷ k ∷ l) = Err NoSuch

abbrev pub share_read : (ℕ → Symbol) → ℕ → List ℕ → Result Symbol SymbolFault
share_read share n [] = Err NoSuch
share_read share n (i ∷ []) = cond (share_digit n i) (Ok (share (share_of i))) (Err NoSuch)
share_read share n (i ∷ j ∷ l) = Err NoSuch

-- a mask's name and nothing after it
abbrev pub named_read : ℕ → ℕ → Option ℕ → Result Symbol SymbolFault
named_read declared size None = Err NoSuch
named_read declared size (Some k) = cond (eqb size (name_length k)) (cond (bit declared k) (Ok (Mask k)) (Err NotDeclared)) (Err NoSuch)

abbrev pub symbol_read : ℕ → ℕ → List ℕ → Result Symbol SymbolFault
symbol_read n declared [] = Err NoSuch
symbol_read n declared (c ∷ w) =
    cond (eqb c letter_s) (product_read n w)
    (cond (eqb c letter_a) (share_read ShareA n w)
    (cond (eqb c letter_b) (share_read ShareB n w)
    (named_read declared (length (c ∷ w)) (mask_at (c ∷ w)))))
