-- The numbers that the scope fixes and that tables, sets and texts share. Every other crate cites the name.
--     min_shares, max_shares     shares of an operand
--     max_order                 the highest order: orders run from 1 to shares - 1
--     max_masks                 masks
--     max_wires                 wires of a table
--     record_bytes              the bytes of a wire's record
--     max_table_bytes            the bytes of the largest table
--     max_size, sizes           the largest size of a set; how many sizes there are, 0 among them
--     count_numbers             how many counts stand fixed in the source: a row of sizes for each number of wires, 0 among them
use Rattle.std.specs.Prelude.{ℕ, ◌+◌, ◌-◌, ◌*◌}

abbrev pub min_shares : ℕ
min_shares = 2

abbrev pub max_shares : ℕ
max_shares = 8

abbrev pub max_order : ℕ
max_order = max_shares - 1

abbrev pub max_masks : ℕ
max_masks = 64

abbrev pub max_wires : ℕ
max_wires = 512

abbrev pub record_bytes : ℕ
record_bytes = 24

abbrev pub max_table_bytes : ℕ
max_table_bytes = record_bytes * max_wires

abbrev pub max_size : ℕ
max_size = 7

abbrev pub sizes : ℕ
sizes = max_size + 1

abbrev pub count_numbers : ℕ
count_numbers = sizes * (max_wires + 1)
