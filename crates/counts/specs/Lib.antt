-- The definitions that the promises of `counts` cite.
pub mod Counts
