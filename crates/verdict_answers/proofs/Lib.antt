-- The theorems on what the entries tell.
--     Conditions  which call gets which number
--     Watching    demand 3
--     Accepting   back from an answer to the list that it shows
--     First       demand 2 in its own words
--     Finds       demand 2 on the answers themselves
--     Dependence  which operand leaks
--     Jobs        a search that is divided over machines
--     Examples    the scope's texts, limits, and what demand 3 alone turns away
pub mod Conditions
pub mod Watching
pub mod Accepting
pub mod First
pub mod Finds
pub mod Dependence
pub mod Jobs
pub mod Examples
