-- The definition that the promises of `breaking` cite, and those of the crates above.
--     Breaking     whether the wires of a set, taken from a table, break a notion
pub mod Breaking
