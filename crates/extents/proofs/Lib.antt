-- How far the ranks of a size are covered.
--     Extents     what one report more adds
pub mod Extents
