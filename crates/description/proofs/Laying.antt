-- Items put together, and items at their places in the text that is written of them.
--     _then_                   items, and then others
--     laid p                   the items at their places in a text, where they follow from place p on
--     laid_lines_lem, laid_out       so output lines, of which the byte before the first is at place p; so a description
use Prim.Native.Nat.{ℕ, ◌+◌}
use mathlib.Core.List.{List, [], ◌∷◌}
use lib.ListN.{length}
use Rattle.description.specs.Symbols.{symbol_length}
use Rattle.description.specs.Run.{placed}
use Rattle.description.specs.Grammar.{Items, none, symbol, group, Description, header_text}
use Rattle.description.specs.Printing.{following}

infixr 60 ◌then◌
abbrev pub ◌then◌ : Items → Items → Items
none then js = js
symbol p is then js = symbol p (is then js)
group o inside c is then js = group o inside c (is then js)

-- a group's first item comes after its parenthesis, which stands where another item's space does
abbrev pub laid : ℕ → Items → Items
laid p none = none
laid p (symbol q is) = symbol (placed (p + 1) q.symbol) (laid (p + 1 + symbol_length q.symbol) is)
laid p (group o inside c is) =
    group (p + 1) (laid (p + 1) inside) (p + 1 + length (following inside)) (laid (p + 1 + length (following inside) + 1) is)

-- a line's first item comes after the line end before it
abbrev pub laid_lines_lem : ℕ → List Items → List Items
laid_lines_lem p [] = []
laid_lines_lem p (is ∷ lines) = laid p is ∷ laid_lines_lem (p + length (following is)) lines

abbrev pub laid_out : Description → Description
laid_out d = record { order = d.order; names = d.names; lines = laid_lines_lem (length (header_text d.order d.names)) d.lines }
