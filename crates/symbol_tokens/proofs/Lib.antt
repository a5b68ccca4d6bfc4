-- What the proofs of several functions use.
--     MaskNames    a mask's name at the start of a run of bytes
pub mod MaskNames
