-- The grammar (scope, "The description text" and "Wires"): which texts spell which description, and which wires a description has. It knows no
-- order of reading and no refusal; with the run it shares the limits, the spelling of symbols, and what a symbol's and an outer wire are.
--     Items                    the items of a group, left to right, each with its place
--     Description              order, declared masks, and the groups of the output lines
--     Byte, Bytes              a byte, a run of bytes of the text at a place
--     empty                    whether there are no items
--     Spelled text p is q      the items stand in the text from place p up to, without, place q
--     Lines text p lines       the output lines stand in the text from place p to its end
--     counted                  lines without items are skipped
--     joined, further-names    the names of masks, parted by a comma and a space
--     header_text               the two header lines, without the second's end
--     member, once             whether a number is one of the names; whether none is given twice
--     Spells text d            the text spells the description
--     uses, symbols            the symbols of items with their places, and without
--     depth                    how deep items nest
--     Event, worked, further   what is worked out for the items of a group, in its order
--     sum_of                    the sum of symbols
--     same_symbol               whether two symbols are spelled alike
--     addition_of               the wire of an addition
--     event_wires               the inner wires of events, the first use of each symbol only
--     last_outer, outered       the last wire made the outer one of a line; a line's wires with its outer one
--     line_wires, lines_wires    the wires of an output line, of the lines
--     wires_of d                the wires of a description
--     mask_count                the highest number + 1, or 0
--     known                    a share of the order, a declared mask
--     Limits text d            the description is within the limits of a text
use Rattle.std.specs.Prelude.{ℕ, ◌+◌, ◌-◌, ◌≤◌, ◌≡◌, Bool, true, false, cond, ◌&&◌, not, List, [], ◌∷◌, ◌++◌, map, eqb, ltb, leb, length, take, drop}
use Rattle.limits.specs.Limits.{max_order}
use Rattle.basics.specs.Folds.{fold, some, every}
use Rattle.wires.specs.declared.Symbol.{Symbol}
use Rattle.wires.specs.declared.Symbol.TheVariants.{Product, ShareA, ShareB, Mask}
use Rattle.records.specs.Layout.{no_sum, plus_sum}
use Rattle.record_words.specs.Symbols.{symbol_sum}
use Rattle.records.specs.declared.sums.Sum.{Sum}
use Rattle.description.specs.Bytes.{space, line_end, opening, closing, comma, bracket, order_word, masks_word, figure, word, ended, same}
use Rattle.description.specs.Symbols.{max_mask, symbol_length, mask_name, spelling, formed}
use Rattle.description.specs.Header.{larger}
use Rattle.description.specs.Listing.{symbol_wire, made_outer, outer_wire}
use Rattle.description.specs.Run.{max_text, max_depth, placed}
use Rattle.description.specs.declared.PlacedSymbol.{PlacedSymbol}
use Rattle.description.specs.declared.Listed.{Listed}

-- a symbol, then the other items; a group in parentheses, which stand at two places, then the other items
pub data Items : Type 0 where
  none : Items
  symbol : PlacedSymbol → Items → Items
  group : ℕ → Items → ℕ → Items → Items

pub record Description : Type 0 where
  pub order : ℕ
  pub names : List ℕ
  pub lines : List Items

abbrev pub Bytes : List ℕ → ℕ → List ℕ → Type 0
Bytes text p w = take (length w) (drop p text) ≡ w

abbrev pub Byte : List ℕ → ℕ → ℕ → Type 0
Byte text p c = Bytes text p (c ∷ [])

abbrev pub empty : Items → Bool
empty none = true
empty (symbol p is) = false
empty (group o inside c is) = false

-- spaces only part the items; a symbol is the longest run of its bytes; a group has one or more items
pub data Spelled (text : List ℕ) : ℕ → Items → ℕ → Type 0 where
  end : {p : ℕ} → Spelled text p none p
  spaced : {p q : ℕ} {is : Items} → Byte text p space → Spelled text (p + 1) is q → Spelled text p is q
  a_symbol : {p q : ℕ} {is : Items} (s : Symbol) → formed s ≡ true → Bytes text p (spelling s)
      → word (drop (p + symbol_length s) text) ≡ [] → Spelled text (p + symbol_length s) is q → Spelled text p (symbol (placed p s) is) q
  a_group : {p c q : ℕ} {inside is : Items} → Byte text p opening → Spelled text (p + 1) inside c → empty inside ≡ false
      → Byte text c closing → Spelled text (c + 1) is q → Spelled text p (group p inside c is) q

-- lines of spaces only, or empty, are skipped; each other line is one output share
abbrev pub counted : Items → List Items → List Items
counted is lines = cond (empty is) lines (is ∷ lines)

-- the last line may lack its line end
pub data Lines (text : List ℕ) : ℕ → List Items → Type 0 where
  last : {p : ℕ} {is : Items} → Spelled text p is (length text) → Lines text p (counted is [])
  line : {p q : ℕ} {is : Items} {lines : List Items} → Spelled text p is q → Byte text q line_end → Lines text (q + 1) lines
      → Lines text p (counted is lines)

-- names parted by a comma and a space
abbrev pub further-names : List ℕ → List ℕ
further-names [] = []
further-names (k ∷ ks) = comma ∷ space ∷ (mask_name k ++ further-names ks)

abbrev pub joined : List ℕ → List ℕ
joined [] = []
joined (k ∷ ks) = mask_name k ++ further-names ks

abbrev pub header_text : ℕ → List ℕ → List ℕ
header_text order names = order_word ++ (figure order ∷ line_end ∷ (masks_word ++ joined names ++ (bracket ∷ [])))

abbrev pub member : ℕ → List ℕ → Bool
member k = some (eqb k)

abbrev pub once : List ℕ → Bool
once [] = true
once (k ∷ ks) = not (member k ks) && once ks

pub record Spells (text : List ℕ) (d : Description) : Type 0 where
  pub order-digit : (1 ≤ d.order) × (d.order ≤ max_order)
  pub name_numbers : every (λ k. leb k max_mask) d.names ≡ true
  pub names-once : once d.names ≡ true
  pub header : Bytes text 0 (header_text d.order d.names)
  pub header-end : ended (drop (length (header_text d.order d.names)) text) ≡ true
  pub output_lines : Lines text (length (header_text d.order d.names)) d.lines

-- ---- the wires of a description

abbrev pub uses : Items → List PlacedSymbol
uses none = []
uses (symbol p is) = p ∷ uses is
uses (group o inside c is) = uses inside ++ uses is

abbrev pub symbols : Items → List Symbol
symbols is = map (λ p. p.symbol) (uses is)

abbrev pub depth : Items → ℕ
depth none = 0
depth (symbol p is) = depth is
depth (group o inside c is) = larger (depth inside + 1) (depth is)

-- a symbol is used; symbols are added up, by the part of the text at this offset and of this length
pub data Event : Type 0 where
  used : PlacedSymbol → Event
  addition : List Symbol → ℕ → ℕ → Event

-- items left to right, an item before the addition that takes it; `further l first is`: the items `is` after those that begin at `first`
-- and add up the symbols l
abbrev mutual
  pub worked : Items → List Event
  worked none = []
  worked (symbol p is) = used p ∷ further is (p.symbol ∷ []) p.place
  worked (group o inside c is) = worked inside ++ further is (symbols inside) o

  pub further : Items → List Symbol → ℕ → List Event
  further none l first = []
  further (symbol p is) l first =
      used p ∷ addition (l ++ (p.symbol ∷ [])) first (p.place + symbol_length p.symbol - first) ∷ further is (l ++ (p.symbol ∷ [])) first
  further (group o inside c is) l first =
      worked inside ++ (addition (l ++ symbols inside) first (c + 1 - first) ∷ further is (l ++ symbols inside) first)

abbrev pub sum_of : List Symbol → Sum
sum_of = fold plus_sum no_sum symbol_sum

abbrev pub same_symbol : Symbol → Symbol → Bool
same_symbol s t = same (spelling s) (spelling t)

abbrev pub addition_of : List Symbol → ℕ → ℕ → Listed
addition_of l offset size = record { sum = sum_of l; outer = false; line = 0; offset = offset; length = size }

-- a symbol's first use makes an inner wire, later uses make none; each addition makes a wire
abbrev pub event_wires : List Event → List Symbol → List Listed
event_wires [] seen = []
event_wires (used p ∷ es) seen =
    cond (some (same_symbol p.symbol) seen) (event_wires es seen) (symbol_wire p ∷ event_wires es (p.symbol ∷ seen))
event_wires (addition l offset size ∷ es) seen = addition_of l offset size ∷ event_wires es seen

abbrev pub last_outer : ℕ → List Listed → List Listed
last_outer n [] = []
last_outer n (w ∷ []) = made_outer n w ∷ []
last_outer n (w ∷ v ∷ ws) = w ∷ last_outer n (v ∷ ws)

-- the last addition of a line is an outer wire; a line that is a single symbol gets an outer wire of its own after the symbol's
abbrev pub outered : ℕ → List PlacedSymbol → List Listed → List Listed
outered n [] ws = last_outer n ws
outered n (p ∷ []) ws = ws ++ (outer_wire n p ∷ [])
outered n (p ∷ q ∷ ps) ws = last_outer n ws

abbrev pub line_wires : List Symbol → ℕ → Items → List Listed
line_wires seen n is = outered n (uses is) (event_wires (worked is) seen)

abbrev pub lines_wires : List Items → List Symbol → ℕ → List Listed
lines_wires [] seen n = []
lines_wires (is ∷ lines) seen n = line_wires seen n is ++ lines_wires lines (symbols is ++ seen) (n + 1)

abbrev pub wires_of : Description → List Listed
wires_of d = lines_wires d.lines [] 0

abbrev pub mask_count : List ℕ → ℕ
mask_count [] = 0
mask_count (k ∷ ks) = larger (k + 1) (mask_count ks)

-- ---- the limits

-- a share of the order, a declared mask
abbrev pub known : ℕ → List ℕ → Symbol → Bool
known n names (Product i j) = ltb i n && ltb j n
known n names (ShareA i) = ltb i n
known n names (ShareB j) = ltb j n
known n names (Mask k) = member k names

-- at most 4,096 bytes, order + 1 output lines, nested at most 16 deep, shares of the order and declared masks
pub record Limits (text : List ℕ) (d : Description) : Type 0 where
  pub short : length text ≤ max_text
  pub line-count : length d.lines ≡ d.order + 1
  pub shallow : every (λ is. leb (depth is) max_depth) d.lines ≡ true
  pub all_known : every (λ is. every (known (d.order + 1) d.names) (symbols is)) d.lines ≡ true
