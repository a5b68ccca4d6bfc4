-- The definitions that the promises on the pool's C functions cite.
--     Calls     what a caller in C gets, and what its numbers mean
pub mod Calls
