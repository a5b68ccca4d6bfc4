-- The lemmas behind `number_words`, and what a word of digits is worth.
--     Digits     a number as a word of digits
pub mod Digits
