-- The definitions that the promises of `sets_by_size` cite.
--     Counted    how many sets there are of each size up to an order, and all together
pub mod Counted
