-- The definitions that the promises of `pages` cite.
--     Decimal   numbers in base ten
--     Page      bytes written one run after the other
pub mod Decimal
pub mod Page
