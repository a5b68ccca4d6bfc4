-- The definitions that the promises of `carriers` cite.
--     Carriers     which wires carry which mask
pub mod Carriers
