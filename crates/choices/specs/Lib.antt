-- The definitions that the promises of `choices` cite.
--     Marks     the marks of a search, and what is kept of a rank
pub mod Marks
