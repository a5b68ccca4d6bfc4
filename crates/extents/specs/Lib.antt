-- The definitions that the promises on extents cite.
--     Extents     how far the ranks of a size are covered
pub mod Extents
