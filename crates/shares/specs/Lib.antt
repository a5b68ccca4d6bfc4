-- The definition that the promises of `shares` cite.
--     Ones     how many ones a word has, by a table
pub mod Ones
