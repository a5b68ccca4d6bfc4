-- The text of the multiplication of Ishai, Sahai and Wagner at order d (request No. 2), byte by byte.
--     mask_of d i j     the name of a pair's mask: masks r0 on, numbered over the share pairs i < j in lexicographic order
--     corrected        `((r sji) sij)`, with its mask and numbers put in
--     item d i j       what line i has for another share j: the pair's mask if j > i, else the corrected products
--     others d i       the items of line i for each other j, rising, a space before each
--     line_text d i     line i: the product of shares i and i, the others, byte 10
--     isw_text d        the header lines, then line 0 to line d
use Rattle.std.specs.Prelude.{ℕ, ◌+◌, cond, List, [], ◌++◌, eqb, ltb}
use Rattle.basics.specs.Folds.{fold, up_to}
use Rattle.basics.specs.Quoted.{bytes}
use Rattle.wires.specs.declared.Symbol.TheVariants.{Product}
use Rattle.description.specs.Symbols.{mask_name, spelling}
use Rattle.description.specs.Grammar.{header_text}
use Rattle.isw_gadget.specs.Pairs.{pairs, pair_number}

abbrev pub mask_of : ℕ → ℕ → ℕ → List ℕ
mask_of d i j = mask_name (pair_number d i j)

abbrev pub corrected : ℕ → ℕ → ℕ → List ℕ
corrected d i j =
    bytes "((" ++ (mask_of d j i ++ (bytes " " ++ (spelling (Product j i) ++ (bytes ") " ++ (spelling (Product i j) ++ bytes ")")))))

abbrev pub item : ℕ → ℕ → ℕ → List ℕ
item d i j = cond (ltb i j) (mask_of d i j) (corrected d i j)

abbrev pub others : ℕ → ℕ → List ℕ
others d i = fold ◌++◌ [] (λ j. cond (eqb j i) [] (bytes " " ++ item d i j)) (up_to (d + 1))

abbrev pub line_text : ℕ → ℕ → List ℕ
line_text d i = spelling (Product i i) ++ (others d i ++ bytes "\n")

unfoldable pub isw_text : ℕ → List ℕ
isw_text d = header_text d (up_to (pairs d)) ++ (bytes "\n" ++ fold ◌++◌ [] (line_text d) (up_to (d + 1)))
