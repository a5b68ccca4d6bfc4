-- The definitions that the promises of `report_lines` cite, and the meaning of a report.
--     Report    the lines of the report on a text
--     Meaning   what the report says of a gadget
pub mod Report
pub mod Meaning
