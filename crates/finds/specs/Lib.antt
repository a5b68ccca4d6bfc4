-- The definitions that the promises on finds cite.
--     Finds     found ranks that are not those of breaking sets, and which comes first
pub mod Finds
