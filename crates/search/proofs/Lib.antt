-- The lemmas behind `search`, which the crates above cite too.
--     Keeping     what is kept of a list of sets
--     Turns       the turns of the loops over size and rank
--     Ranges      what is found first in a range of ranks
--     Sizes       what is found first in rising sizes
pub mod Keeping
pub mod Turns
pub mod Ranges
pub mod Sizes
