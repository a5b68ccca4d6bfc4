-- The definitions that the promises of `pool` and `filing` cite.
--     Answers     each answer in the numbers of the requests, and what each entry answers
--     Conditions  what each entry turns down, in the order in which it is tested
--     Says        what the pool's answers say of the reports
--     Agrees      what they say of the table, if every clean report is true
--     Gathered    the reports of a search that is divided over jobs
pub mod Answers
pub mod Conditions
pub mod Says
pub mod Agrees
pub mod Gathered
