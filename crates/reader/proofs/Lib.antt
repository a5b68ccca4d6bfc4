-- What the proofs of several functions use.
--     Telling      what reading tells, and what the answer then says of the text's grammar
--     Conditions   which call gets which number
--     Parts        what the check of a text part tells
--     Samples      examples, proved by running the definitions
pub mod Conditions
pub mod Parts
pub mod Telling
pub mod Samples
