-- The definitions that the promises of `reader` cite.
--     Answers    each answer in the scope's own numbers, and what each entry answers
--     Conditions what the check of a text part turns down, in the order in which it is tested
--     Reads      what an answer of reading says of the text's grammar
pub mod Answers
pub mod Conditions
pub mod Reads
