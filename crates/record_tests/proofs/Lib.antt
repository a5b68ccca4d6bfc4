-- The lemmas behind `record_tests`.
--     Beyond     the test that a record names nothing beyond the shares and masks
--     Named      the functions' records, and the test that no bit of a sum is set
pub mod Beyond
pub mod Named
