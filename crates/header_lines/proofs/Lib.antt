-- What the proofs of several functions use.
--     NameList       the names of the second header line
--     HeaderLines    the two header lines
pub mod NameList
pub mod HeaderLines
