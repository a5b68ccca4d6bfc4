-- The definitions that the promises of `search` cite.
--     Search      the sets to look at, in order, and those that break
pub mod Search
