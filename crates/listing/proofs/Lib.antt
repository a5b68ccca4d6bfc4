-- What the proofs of several functions use.
--     Holding    what a table holds when a wire is listed, and when one is made outer
--     Stepping   the code's steps follow the run's
pub mod Holding
pub mod Stepping
