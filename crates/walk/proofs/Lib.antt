-- The lemmas behind `walk`, which the crates above cite too.
--     Exchanges     what an exchange of one wire for another is
--     Neighbours    each next set has lost just one wire and gained just one
--     Climbing      the steps, over lists
--     Sets          sets that have a next one, and the next one
--     Sliding       the step of the lowest wire in the terms of the code
--     Stepping      the step above it
--     Telling       what the request asks, in its own words
--     Examples      the sets of small orders, one after the other
pub mod Exchanges
pub mod Neighbours
pub mod Climbing
pub mod Sets
pub mod Sliding
pub mod Stepping
pub mod Telling
pub mod Examples
