-- The definitions that the searches by parts cite.
--     Parts     sets as tests on wire numbers, and their parts
pub mod Parts
