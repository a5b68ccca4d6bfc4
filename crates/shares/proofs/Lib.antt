-- The lemmas behind `shares`, which the crates above cite too.
--     Shares     products folded to rows and columns, and their ones counted
pub mod Shares
