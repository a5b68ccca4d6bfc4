-- The scope's starred examples hold.
--     Starred   the theorem over the whole table
pub mod Starred
