-- How `opening` and `write` meet their promises, and what the entries take from that.
--     Admitting   the tests that every entry begins with
--     Deciding    the search's test finds the sets that the gadget's own shares and masks give
pub mod Admitting
pub mod Deciding
