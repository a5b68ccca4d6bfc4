-- The definitions that the promises of `directed_search` cite.
--     Least     the least rank of a set that passes a test
pub mod Least
