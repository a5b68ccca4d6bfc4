-- How the range check meets its promises.
--     Ranges      its answers, path by path
pub mod Ranges
