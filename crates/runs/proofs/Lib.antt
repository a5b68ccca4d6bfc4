-- The lemmas behind `runs`, which the crates above cite too.
--     Clean       ranks of one size at which nothing was found
--     Passing     the turns of a run of the lowest wire
pub mod Clean
pub mod Passing
