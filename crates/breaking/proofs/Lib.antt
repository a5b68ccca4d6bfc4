-- The lemmas behind `breaking`.
--     Paying     how many wires of a set pay
--     Breaking   the breaking test on words
pub mod Paying
pub mod Breaking
