-- How `pool` meets its promises.
--     Pooling     the answers, path by path
pub mod Pooling
