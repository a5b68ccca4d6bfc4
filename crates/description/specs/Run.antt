-- The reading of a text, as one run over its bytes from left to right (scope, "The description text", "Wires" and "What each operation turns
-- down"). The first fault that the run meets is the one at the lowest offset.
--     refusal_number       the scope's number of each refusal
--     max_text, max_depth   the limits of a text
--     Around              a group around the innermost, and the place of the parenthesis that was opened in it
--     State               what is known before a byte
--     placed              a symbol with its place
--     start               what is known before the output lines
--     used                a symbol is used: its first use lists a wire
--     put                 an item is put into the innermost group: any but the first is added, and the addition lists a wire
--     symbol_item, took    a symbol as an item; it is used, and then put
--     within, opened      a state in another group; a parenthesis opened
--     group_item, closed   a group in parentheses as an item; a parenthesis closed
--     newest_outer         the newest wire made the outer one of a line
--     line_done            an output line done: its last addition, or the single symbol's own wire, is outer
--     Step, step          what is done at a byte: go on, so many bytes passed over after it, or stop
--     symbol_refusal      the refusal of a run of bytes that is no symbol to take
--     line_step, open_step, close_step, symbol_step     what is done at a line's end, at a parenthesis, at a symbol
--     Outcome, finish     what a run comes to; the text's end
--     run, run_at          the run over the bytes from a place on
--     Reading, listed     what reading comes to, and so after the run
--     second_at            the place of the second line
--     second_line          where the second line starts, or the text's length
--     after_masks, after_order, reading     the reading of a whole text, from its end to its start
use Rattle.std.specs.Prelude.{ℕ, zero, suc, ◌+◌, ◌-◌, Bool, false, cond, ◌||◌, List, [], ◌∷◌, reverse, eqb, ltb, length, drop, Option, Some, None, Result, Ok, Err}
use Rattle.wires.specs.declared.Symbol.{Symbol}
use Rattle.records.specs.Layout.{no_sum, plus_sum}
use Rattle.record_words.specs.Symbols.{symbol_sum, is_in}
use Rattle.records.specs.declared.sums.Sum.{Sum}
use Rattle.description.specs.Bytes.{space, line_end, opening, closing, bar, word}
use Rattle.description.specs.Symbols.{symbol_length, symbol_read}
use Rattle.description.specs.Header.{order_line, masks_line}
use Rattle.description.specs.Listing.{symbol_wire, made_outer, outer_wire, empty_group, addition_wire, put_into}
use Rattle.description.specs.declared.PlacedSymbol.{PlacedSymbol}
use Rattle.description.specs.declared.SymbolFault.{SymbolFault}
use Rattle.description.specs.declared.Listed.{Listed}
use Rattle.description.specs.declared.Item.{Item}
use Rattle.description.specs.declared.Group.{Group}
use Rattle.description.specs.declared.Masks.{Masks}
use Rattle.description.specs.declared.Refusal.{Refusal}
use Rattle.description.specs.declared.Refusal.TheVariants.{TextTooLong, WrongOrderLine, WrongMasksLine, NoSuchSymbol, MaskNotDeclared}
use Rattle.description.specs.declared.Refusal.TheVariants.{WrongParenthesis, Bar, NestedTooDeep, WrongLineCount, TooManyWires}

abbrev pub refusal_number : Refusal → ℕ
refusal_number TextTooLong = 1
refusal_number WrongOrderLine = 2
refusal_number WrongMasksLine = 3
refusal_number NoSuchSymbol = 4
refusal_number MaskNotDeclared = 5
refusal_number WrongParenthesis = 6
refusal_number Bar = 7
refusal_number NestedTooDeep = 8
refusal_number WrongLineCount = 9
refusal_number TooManyWires = 10

abbrev pub max_text : ℕ
max_text = 4096

abbrev pub max_depth : ℕ
max_depth = 16

pub record Around : Type 0 where
  pub group : Group
  pub opened : ℕ

-- the innermost open group, the groups around it, the wires listed (newest first), the symbols used, the output lines done, whether this
-- line has an addition, the last symbol
pub record State : Type 0 where
  pub group : Group
  pub around : List Around
  pub wires : List Listed
  pub seen : Sum
  pub lines : ℕ
  pub added : Bool
  pub last : PlacedSymbol

abbrev pub placed : ℕ → Symbol → PlacedSymbol
placed place symbol = record { place = place; symbol = symbol }

abbrev pub start : State
start = record {
  group = empty_group;
  around = [];
  wires = [];
  seen = no_sum;
  lines = 0;
  added = false;
  last = placed 0 (Symbol.ShareA 0);
}

abbrev pub used : PlacedSymbol → State → State
used p s = record {
  group = s.group;
  around = s.around;
  wires = cond (is_in p.symbol s.seen) s.wires (symbol_wire p ∷ s.wires);
  seen = cond (is_in p.symbol s.seen) s.seen (plus_sum s.seen (symbol_sum p.symbol));
  lines = s.lines;
  added = s.added;
  last = p;
}

abbrev pub put : Item → State → State
put item s = record {
  group = put_into s.group item;
  around = s.around;
  wires = cond s.group.filled (addition_wire s.group item ∷ s.wires) s.wires;
  seen = s.seen;
  lines = s.lines;
  added = s.added || s.group.filled;
  last = s.last;
}

abbrev pub symbol_item : PlacedSymbol → Item
symbol_item p = record { sum = symbol_sum p.symbol; from = p.place; end = p.place + symbol_length p.symbol }

-- the symbol's wire comes before the addition that takes it
abbrev pub took : PlacedSymbol → State → State
took p s = put (symbol_item p) (used p s)

abbrev pub within : Group → List Around → State → State
within g around s = record {
  group = g;
  around = around;
  wires = s.wires;
  seen = s.seen;
  lines = s.lines;
  added = s.added;
  last = s.last;
}

abbrev pub opened : ℕ → State → State
opened at s = within empty_group (record { group = s.group; opened = at } ∷ s.around) s

-- the group from its opening parenthesis to the closing one is an item of the group around it
abbrev pub group_item : ℕ → ℕ → Group → Item
group_item from at g = record { sum = g.sum; from = from; end = at + 1 }

abbrev pub closed : ℕ → Around → List Around → State → State
closed at outside around s = put (group_item outside.opened at s.group) (within outside.group around s)

abbrev pub newest_outer : ℕ → List Listed → List Listed
newest_outer line [] = []
newest_outer line (w ∷ ws) = made_outer line w ∷ ws

abbrev pub line_done : State → State
line_done s = record {
  group = empty_group;
  around = s.around;
  wires = cond s.added (newest_outer s.lines s.wires) (outer_wire s.lines s.last ∷ s.wires);
  seen = s.seen;
  lines = s.lines + 1;
  added = false;
  last = s.last;
}

pub data Step : Type 0 where
  go : ℕ → State → Step
  stop : Refusal → Step

-- 6: at a line's end, one still open; a line without items is skipped
abbrev pub line_step : List Around → State → Step
line_step [] s = go 0 (cond s.group.filled (line_done s) s)
line_step (g ∷ around) s = stop WrongParenthesis

-- 8: a parenthesis opened when sixteen are open
abbrev pub open_step : ℕ → State → Step
open_step at s = cond (eqb (length s.around) max_depth) (stop NestedTooDeep) (go 0 (opened at s))

-- 6: a closing parenthesis with none open or nothing inside
abbrev pub close_step : ℕ → List Around → State → Step
close_step at [] s = stop WrongParenthesis
close_step at (g ∷ around) s = cond s.group.filled (go 0 (closed at g around s)) (stop WrongParenthesis)

-- 4: no such symbol, or a share beyond the order; 5: a well-formed mask not declared
abbrev pub symbol_refusal : SymbolFault → Refusal
symbol_refusal SymbolFault.NoSuch = NoSuchSymbol
symbol_refusal SymbolFault.NotDeclared = MaskNotDeclared

abbrev pub symbol_step : ℕ → ℕ → Result Symbol SymbolFault → State → Step
symbol_step at size (Err fault) s = stop (symbol_refusal fault)
symbol_step at size (Ok symbol) s = go (size - 1) (took (placed at symbol) s)

-- at the byte c, with l after it; 9: a line too many, at its first byte that is no space; 7: a bar
abbrev pub step : ℕ → ℕ → ℕ → State → ℕ → List ℕ → Step
step shares declared at s c l =
    cond (eqb c space) (go 0 s)
    (cond (eqb c line_end) (line_step s.around s)
    (cond (eqb s.lines shares) (stop WrongLineCount)
    (cond (eqb c opening) (open_step at s)
    (cond (eqb c bar) (stop Bar)
    (cond (eqb c closing) (close_step at s.around s)
    (symbol_step at (length (word (c ∷ l))) (symbol_read shares declared (word (c ∷ l))) s))))))

pub data Outcome : Type 0 where
  done : State → Outcome
  refused : Refusal → ℕ → Outcome

-- the text's end is a line's end; 9: lines too few
abbrev pub finish : ℕ → ℕ → Step → Outcome
finish shares at (go pass s) = cond (ltb s.lines shares) (refused WrongLineCount at) (done s)
finish shares at (stop why) = refused why at

-- the bytes from place `at` on, where `pass` bytes are passed over first
unfoldable pub run : ℕ → ℕ → ℕ → ℕ → State → List ℕ → Outcome
run shares declared at pass s [] = finish shares at (line_step s.around s)
run shares declared at (suc pass) s (c ∷ l) = run shares declared (at + 1) pass s l
run shares declared at zero s (c ∷ l) =
    elim (step shares declared at s c l) [
      | go pass t ↦ run shares declared (at + 1) pass t l
      | stop why ↦ refused why at
    ]

abbrev pub run_at : ℕ → ℕ → List ℕ → ℕ → State → Outcome
run_at shares declared text at s = run shares declared at 0 s (drop at text)

-- a text that was read: its order, its mask count, its wires in their order
pub data Reading : Type 0 where
  read : ℕ → ℕ → List Listed → Reading
  turned_down : Refusal → ℕ → Reading

abbrev pub listed : ℕ → ℕ → Outcome → Reading
listed order masks (done s) = read order masks (reverse s.wires)
listed order masks (refused why at) = turned_down why at

-- the first line is `ORDER = `, one digit and a line end
abbrev pub second_at : ℕ
second_at = 10

-- where the second line starts, or the text's length
abbrev pub second_line : List ℕ → ℕ
second_line text = cond (ltb (length text) second_at) (length text) second_at

-- shares are order + 1
abbrev pub after_masks : List ℕ → ℕ → Option Masks → Reading
after_masks text order None = turned_down WrongMasksLine (second_line text)
after_masks text order (Some m) = listed order m.count (run_at (order + 1) m.declared text m.end start)

abbrev pub after_order : List ℕ → Option ℕ → Reading
after_order text None = turned_down WrongOrderLine 0
after_order text (Some order) = after_masks text order (masks_line second_at (drop second_at text))

-- 1: over 4,096 bytes, before all else; 2: first line wrong; 3: second line wrong or absent
abbrev pub reading : List ℕ → Reading
reading text = cond (ltb max_text (length text)) (turned_down TextTooLong max_text) (after_order text (order_line text))
