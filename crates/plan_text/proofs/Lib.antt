-- The lemmas behind `plan_text`, and the theorems on what it tells.
--     Counting    the numbers of sets beside the answer
--     Ten         reading by itself gives no 10
--     Sizing      what the entry tells, and what its answer says
--     Exactly     the words of what it says fix the answer
--     Telling     what the entry tells, in the law's words
--     Samples     examples, proved by running the definitions
pub mod Counting
pub mod Ten
pub mod Sizing
pub mod Exactly
pub mod Telling
pub mod Samples
