-- The theorems on parts of sets.
--     Members     sets as tests on wire numbers
--     Ranks       their ranks
--     Sums        sums and counts over a set and its parts
--     Cutting     what a breaking set of least size has in each of its parts
pub mod Members
pub mod Ranks
pub mod Sums
pub mod Cutting
