-- The definitions that the promises of `sets` cite.
--     Answers   each answer in the numbers of the scope, and what each entry answers
--     Visits    what the entries tell, taken together
--     Conditions  what each entry turns down, in the order in which it is tested
pub mod Answers
pub mod Visits
pub mod Conditions
