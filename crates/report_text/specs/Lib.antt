-- The definitions that the promises of `report_text` cite.
--     Report    what the report's entry answers
pub mod Report
