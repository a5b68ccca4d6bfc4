-- The definitions that the promises of `record_tests` cite.
--     Cut       terms cut to the first shares of each operand
pub mod Cut
