-- The lemmas behind `table`, and what the tests of a table give to the operations that come after them.
--     Records    the test of a record
--     Conditions which call gets which number
--     Entries    what the tests give to later operations, and what the function check tells
--     Examples   the scope's texts A, B and C as tables, both sides of every limit
pub mod Records
pub mod Conditions
pub mod Entries
pub mod Examples
