-- What the promises of `listing` cite.
--     Progress    how far the reading has come, and what it stands for in the run
pub mod Progress
