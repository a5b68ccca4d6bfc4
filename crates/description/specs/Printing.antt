-- A description written out: its text with one space between items. The places that the given items name are not looked at.
--     an, bracketed            a symbol, a group in parentheses, whose places are not yet known
--     following                the bytes of items, a space before each
--     printed, printed_line     the bytes of items, one space between two; those of an output line, with its line end
--     text_of                   the text of a description: the header lines, then the output lines
use Rattle.std.specs.Prelude.{ℕ, List, [], ◌∷◌, ◌++◌, drop}
use Rattle.basics.specs.Folds.{fold}
use Rattle.wires.specs.declared.Symbol.{Symbol}
use Rattle.description.specs.Bytes.{space, line_end, opening, closing}
use Rattle.description.specs.Symbols.{spelling}
use Rattle.description.specs.Run.{placed}
use Rattle.description.specs.Grammar.{Items, none, symbol, group, Description, header_text}

abbrev pub an : Symbol → Items → Items
an s is = symbol (placed 0 s) is

abbrev pub bracketed : Items → Items → Items
bracketed inside is = group 0 inside 0 is

abbrev pub following : Items → List ℕ
following none = []
following (symbol p is) = space ∷ (spelling p.symbol ++ following is)
following (group o inside c is) = space ∷ opening ∷ (drop 1 (following inside) ++ (closing ∷ following is))

abbrev pub printed : Items → List ℕ
printed is = drop 1 (following is)

abbrev pub printed_line : Items → List ℕ
printed_line is = printed is ++ (line_end ∷ [])

abbrev pub text_of : Description → List ℕ
text_of d = header_text d.order d.names ++ (line_end ∷ fold ◌++◌ [] printed_line d.lines)
