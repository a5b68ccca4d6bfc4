-- A time in words.
--     time_bytes     no time takes more bytes
use Rattle.std.specs.Prelude.{ℕ}

abbrev pub time_bytes : ℕ
time_bytes = 32
