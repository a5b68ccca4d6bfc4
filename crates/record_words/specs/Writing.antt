-- The bytes of a record that is written (scope, "Wires").
--     sum_bytes s                     the bytes of a wire's sum
--     place_bytes outer line offset size     what a record says of the wire's place in the text, after the sum
--     record_of s outer line offset size     the bytes of a record
--     outer_bytes line                what a record says of the outer wire of a line, from the byte of inner or outer on
use Rattle.std.specs.Prelude.{ℕ, Bool, List, ◌++◌}
use Rattle.basics.specs.Folds.{one_if}
use Rattle.records.specs.Words.{bytes_of}
use Rattle.records.specs.declared.sums.Sum.{Sum}

-- products, masks, shares of a, shares of b
abbrev pub sum_bytes : Sum → List ℕ
sum_bytes s = bytes_of 8 s.products ++ bytes_of 8 s.masks ++ bytes_of 1 s.shares_a ++ bytes_of 1 s.shares_b

-- 0 inner or 1 outer, output line, offset, length
abbrev pub place_bytes : Bool → ℕ → ℕ → ℕ → List ℕ
place_bytes outer line offset size = bytes_of 1 (one_if outer) ++ bytes_of 1 line ++ bytes_of 2 offset ++ bytes_of 2 size

abbrev pub record_of : Sum → Bool → ℕ → ℕ → ℕ → List ℕ
record_of s outer line offset size = sum_bytes s ++ place_bytes outer line offset size

-- the byte of the outer wire and, after it, its line
abbrev pub outer_bytes : ℕ → List ℕ
outer_bytes line = bytes_of 1 1 ++ bytes_of 1 line
