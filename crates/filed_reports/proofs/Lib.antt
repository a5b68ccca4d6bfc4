-- How reports are read and written.
--     Bytes      the bytes of a report
--     Filed      the tests on reports decide what they say
--     Places     the first place, told by a definition that computes
pub mod Bytes
pub mod Filed
pub mod Places
