-- The lemmas behind `carriers`, which the crates above cite too.
--     Highest     the highest number below a limit that passes a test, and where it is read
--     Masks       the lowest mask of a word
--     Rows        the list of carriers as the code fills it, a row of masks for each limit
pub mod Highest
pub mod Masks
pub mod Rows
