-- The lemmas behind `running`, which the crates above cite too.
--     Inside         sets of a table's wires, and the part of a buffer that holds one
--     Exchanging     one record leaves a sum, one enters
--     Telling        what the request asks of the sum, in its own words, and what the tally says of the set where a walk stands
pub mod Inside
pub mod Exchanging
pub mod Telling
