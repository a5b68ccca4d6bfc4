-- How the verdict meets its promises.
--     Entries     its answers, path by path
pub mod Entries
