-- The definitions that the promises of `division` cite.
--     Division  the ranks and the sets of a job
--     Answers   the answer in the numbers of the scope, and what `job` answers
--     Visits    the ranks that `job` tells of
--     Conditions  what `job` turns down, in the order in which it is tested
pub mod Division
pub mod Answers
pub mod Visits
pub mod Conditions
