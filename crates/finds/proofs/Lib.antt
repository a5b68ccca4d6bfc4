-- How the found ranks of reports are looked at.
--     Breaking     whether each is that of a breaking set
--     Least        which comes first
pub mod Breaking
pub mod Least
