-- The definitions that the promises of `calduvren` cite.
--     Calls     what a caller in C gets from a call
--     Meaning   what the numbers that he gets mean
pub mod Calls
pub mod Meaning
