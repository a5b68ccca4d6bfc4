-- The definitions that the promises of `output_lines` cite.
--     Going    what lines read, as steps of the run
pub mod Going
