-- The lemmas behind `sets_by_size`.
--     Counting    the numbers of sets
--     Totals      all sets together
--     Samples     examples, proved by running the definitions
pub mod Counting
pub mod Totals
pub mod Samples
