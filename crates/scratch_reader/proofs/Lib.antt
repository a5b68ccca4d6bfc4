-- What the proofs of several functions use.
--     Heading      the whole text: its header, and what is then read
pub mod Heading
