-- The lemmas behind `record_words`.
--     Shifts     a symbol's bit in the code's words
--     Naming     what sums of symbols mean, and which symbols they name
--     Encoding   what is written into a record is what is read of it
--     Written    bytes written into a table
pub mod Shifts
pub mod Naming
pub mod Encoding
pub mod Written
