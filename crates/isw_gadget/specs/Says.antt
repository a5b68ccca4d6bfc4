-- What the text says, as request No. 2 has it, share by share: in terms of what it spells, with no list that is run through.
--     unplaced          items without their places in a text
--     items, item_at     how many items stand side by side, and which is the k-th from 0 on
--     LineSays          "line i begins with the product of shares i and i, then for each other j, rising, the pair's mask if j > i, else ((r sji) sij)"
--     IswSpelled        the whole: "masks r0 on, numbered over the share pairs i < j in lexicographic order", each line, and that "items are parted by
--                       one space, lines end in byte 10"
use Rattle.std.specs.Prelude.{ℕ, zero, suc, ◌+◌, ◌≤◌, ◌<◌, ◌≡◌, List, length, get_or}
use Rattle.basics.specs.Folds.{up_to}
use Rattle.wires.specs.declared.Symbol.TheVariants.{Product, Mask}
use Rattle.description.specs.Grammar.{Items, none, symbol, group, Description, Spells}
use Rattle.description.specs.Printing.{an, bracketed, text_of}
use Rattle.isw_gadget.specs.Pairs.{pairs, Numbers}

abbrev pub unplaced : Items → Items
unplaced none = none
unplaced (symbol p is) = an p.symbol (unplaced is)
unplaced (group o inside c is) = bracketed (unplaced inside) (unplaced is)

abbrev pub items : Items → ℕ
items none = 0
items (symbol p is) = suc (items is)
items (group o inside c is) = suc (items is)

abbrev pub item_at : Items → ℕ → Items
item_at none k = none
item_at (symbol p is) zero = symbol p none
item_at (symbol p is) (suc k) = item_at is k
item_at (group o inside c is) zero = group o inside c none
item_at (group o inside c is) (suc k) = item_at is k

-- the shares below i come first, so that of j stands at j + 1; line i has none for its own, so that of a share j above it at j
pub record LineSays (d : ℕ) (number : ℕ → ℕ → ℕ) (i : ℕ) (is : Items) : Type 0 where
  pub begins : item_at is 0 ≡ an (Product i i) none
  pub lower : (j : ℕ) → j < i → item_at is (j + 1) ≡ bracketed (bracketed (an (Mask (number j i)) (an (Product j i) none)) (an (Product i j) none)) none
  pub higher : (j : ℕ) → i < j → j ≤ d → item_at is j ≡ an (Mask (number i j)) none
  pub no_more : items is ≡ d + 1

-- there is one description that a text spells, and one text with single spaces that spells it
pub record IswSpelled (d : ℕ) (text : List ℕ) : Type 0 where
  pub description : Description
  pub spells : Spells text description
  pub spaced : text ≡ text_of description
  pub same-order : description.order ≡ d
  pub same_names : description.names ≡ up_to (pairs d)
  pub line-count : length description.lines ≡ d + 1
  pub number : ℕ → ℕ → ℕ
  pub numbers : Numbers d number
  pub lines_say : (i : ℕ) → i ≤ d → LineSays d number i (unplaced (get_or description.lines i none))
