-- The lemmas behind `limits`.
--     Scope    the numbers as the scope says them
pub mod Scope
