-- The definitions of `limits`.
--     Limits    the numbers that the scope fixes
pub mod Limits
