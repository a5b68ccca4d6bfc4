-- Why a page holds what was written to it.
--     Numbers   numbers in base ten
--     Writing   bytes written one run after the other
pub mod Numbers
pub mod Writing
