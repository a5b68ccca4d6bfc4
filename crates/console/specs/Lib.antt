-- The definitions that the contracts of `console` cite.
--     Times      a time in words
pub mod Times
