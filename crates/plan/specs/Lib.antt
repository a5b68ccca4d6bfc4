-- The definitions that the contracts of the program `plan` cite.
--     Rows     how much room the lines of a plan take
pub mod Rows
