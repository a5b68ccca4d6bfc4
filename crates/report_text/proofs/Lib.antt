-- Why the report's entry answers what its definition says.
--     Reporting the report, by the buffer that it is written to
pub mod Reporting
