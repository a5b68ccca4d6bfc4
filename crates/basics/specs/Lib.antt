-- Definitions that know nothing of wires.
--     Told         an answer in the scope's own numbers
--     Conditions   when a call is turned down, and by which number
--     Folds        sums without carry, tests and counts over a list
--     Quoted       the bytes of a quoted text
pub mod Told
pub mod Conditions
pub mod Folds
pub mod Quoted
