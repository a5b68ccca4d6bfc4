-- The definitions that the promises on filed reports cite.
--     Bytes      how a report stands in its 32 bytes
--     Filed      which reports a pool takes, what a report covers and what it finds
--     Places     the first place at which something is so
pub mod Bytes
pub mod Filed
pub mod Places
