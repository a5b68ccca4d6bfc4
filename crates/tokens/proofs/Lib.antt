-- What the proofs of several functions use.
--     Runs    runs of bytes of a text, from a place on
pub mod Runs
