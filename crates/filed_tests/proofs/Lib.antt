-- How the tests of reports decide.
--     Testing     a report, and all reports of a list
pub mod Testing
