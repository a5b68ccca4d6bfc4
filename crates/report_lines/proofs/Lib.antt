-- Why the report is what its definition says.
--     Reporting the whole report, by what was told
--     Meaning   what the report says of a gadget
pub mod Reporting
pub mod Meaning
