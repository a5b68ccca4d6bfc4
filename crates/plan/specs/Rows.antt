-- The lines of a plan.
--     row_bytes         the bytes of a row of the table, its line end among them
--     time_line_bytes    no more bytes are taken by the line of the time, with the empty one before it
use Rattle.std.specs.Prelude.{ℕ}

abbrev pub row_bytes : ℕ
row_bytes = 41

abbrev pub time_line_bytes : ℕ
time_line_bytes = 128
