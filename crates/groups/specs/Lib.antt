-- The definitions that the promises of `groups` cite.
--     Going    what groups and items read, as steps of the run
pub mod Going
