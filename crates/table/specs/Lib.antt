-- The definitions that the promises of `table` cite.
--     Answers   each answer in the numbers of the scope, and what each entry answers
--     Conditions  what each entry turns down, in the order in which it is tested
pub mod Answers
pub mod Conditions
