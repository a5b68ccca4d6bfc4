-- What the proofs of several functions use.
--     Reaching     where the run stands when a part of a text has been read
--     Closing      the end of a group
--     Entering     an item: a bar, a parenthesis too many, a group in parentheses
--     Gathering    the items of a group, one after the other
pub mod Reaching
pub mod Closing
pub mod Entering
pub mod Gathering
