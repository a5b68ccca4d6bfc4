-- The definitions that the promises of `walk` cite.
--     Neighbours     what leaves and what enters from one set to the next
--     Places         how the step finds the place that moves
pub mod Neighbours
pub mod Places
