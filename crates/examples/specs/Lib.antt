-- The scope's starred examples.
--     Starred   the table: what is asked, and what the scope says of it
pub mod Starred
