-- The definitions that the contracts of the program `report` cite.
--     Symbols   how many symbols there are
pub mod Symbols
