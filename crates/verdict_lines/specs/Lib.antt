-- The definitions that the promises of `verdict_lines` cite.
--     Lines     the line of a notion
--     Meaning   what it says of a watcher
pub mod Lines
pub mod Meaning
