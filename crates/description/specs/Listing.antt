-- Wires as they are listed, and their records (scope, "Wires").
--     encode w              the bytes of a wire's record
--     records_of ws          the records of wires, in their order
--     wire_of w              the wire, as the theory of wires sees it
--     symbol_wire p          the inner wire of a symbol's first use
--     outer_wire line p      the outer wire of a line that is a single symbol
--     made_outer line w      the wire, made the outer one of a line
--     empty_group            a group before its first item
--     addition_wire, put_into     the wire of an addition to a group, and the group then
use Rattle.std.specs.Prelude.{ℕ, ◌-◌, true, false, cond, List, [], ◌∷◌, ◌++◌}
use Rattle.wires.specs.Wires.{Wire}
use Rattle.records.specs.Layout.{terms_of, no_sum, plus_sum}
use Rattle.record_words.specs.Symbols.{symbol_sum}
use Rattle.record_words.specs.Writing.{record_of}
use Rattle.description.specs.Symbols.{symbol_length}
use Rattle.description.specs.declared.Listed.{Listed}
use Rattle.description.specs.declared.Item.{Item}
use Rattle.description.specs.declared.Group.{Group}
use Rattle.description.specs.declared.PlacedSymbol.{PlacedSymbol}

unfoldable pub encode : Listed → List ℕ
encode w = record_of w.sum w.outer w.line w.offset w.length

abbrev pub records_of : List Listed → List ℕ
records_of [] = []
records_of (w ∷ ws) = encode w ++ records_of ws

abbrev pub wire_of : Listed → Wire
wire_of w = record { terms = terms_of w.sum; outer = w.outer }

abbrev pub symbol_wire : PlacedSymbol → Listed
symbol_wire p =
    record { sum = symbol_sum p.symbol; outer = false; line = 0; offset = p.place; length = symbol_length p.symbol }

abbrev pub made_outer : ℕ → Listed → Listed
made_outer line w = record { sum = w.sum; outer = true; line = line; offset = w.offset; length = w.length }

abbrev pub outer_wire : ℕ → PlacedSymbol → Listed
outer_wire line p = made_outer line (symbol_wire p)

abbrev pub empty_group : Group
empty_group = record { sum = no_sum; filled = false; first = 0 }

-- from the first byte of the group's first item to the last byte of the item added
abbrev pub addition_wire : Group → Item → Listed
addition_wire g item =
    record { sum = plus_sum g.sum item.sum; outer = false; line = 0; offset = g.first; length = item.end - g.first }

-- the first item begins the group; any other is added
abbrev pub put_into : Group → Item → Group
put_into g item =
    cond g.filled
    (record { sum = plus_sum g.sum item.sum; filled = true; first = g.first })
    (record { sum = item.sum; filled = true; first = item.from })
