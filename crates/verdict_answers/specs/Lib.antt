-- The definitions that the promises of `verdict`, `ranges` and `dependence` cite.
--     Answers     each answer in the numbers of the scope, and what each entry answers
--     Conditions  what each entry turns down, in the order in which it is tested
--     Guarantee   demand 3
--     First       demand 2 in its own words
--     Dependence  which operand leaks
--     Jobs        what machines find that divide a search
pub mod Answers
pub mod Conditions
pub mod Guarantee
pub mod Jobs
pub mod First
pub mod Dependence
