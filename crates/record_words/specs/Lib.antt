-- The definitions that the promises of `record_words` cite.
--     Symbols   the sums that name symbols
--     Writing   the bytes of a record that is written
pub mod Symbols
pub mod Writing
