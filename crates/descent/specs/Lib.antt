-- The definitions that the promises of `descent` cite.
--     Nodes     the nodes of a search, and what is promised of a descent from one
pub mod Nodes
