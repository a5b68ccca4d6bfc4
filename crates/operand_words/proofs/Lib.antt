-- Why the operands are named as the definition says, and what that says of a set.
--     Saying    what the answer tells, as it is written
--     Meaning   what the word says
pub mod Saying
pub mod Meaning
