-- What the proofs of several functions use.
--     Ending     the ends of lines and of the text
--     Outputs    the output lines, one after the other
pub mod Ending
pub mod Outputs
