-- What the functions of `isw_lines` need.
--     Numbering     the number of a pair by a formula
--     Writing       the bytes of a part, of a line and of the header lines
pub mod Numbering
pub mod Writing
