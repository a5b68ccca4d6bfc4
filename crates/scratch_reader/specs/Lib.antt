-- The definitions that the promises of `scratch_reader` cite.
--     Answers    what reading comes to where no table is lent
--     Scratch    what reading into a table of the code's own has found: for reading and for the size of a check, no entry cites it
pub mod Answers
pub mod Scratch
