-- The definitions that the promises of `plan_text` cite.
--     Answers    the answer in the request's own numbers, and what the entry answers
--     Says       what the answer says, in the words of reading and of the set counts
pub mod Answers
pub mod Says
