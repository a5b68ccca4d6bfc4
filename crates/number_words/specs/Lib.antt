-- The definitions that the contracts of `number_words` cite.
--     Digits     a number as a word of digits
pub mod Digits
