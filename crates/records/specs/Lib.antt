-- The definitions that the promises of `records` cite.
--     Words     the bits of a number, little-endian numbers
--     Layout    how a wire stands in a table
pub mod Words
pub mod Layout
