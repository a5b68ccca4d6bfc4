-- The definitions that the promises of `revolving` cite.
--     Order     the revolving-door order, set from rank, rank from set
pub mod Order
