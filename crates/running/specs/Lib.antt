-- The definitions that the promises of `running` cite.
--     Kept     the tally that a walk keeps, and where it stands
pub mod Kept
