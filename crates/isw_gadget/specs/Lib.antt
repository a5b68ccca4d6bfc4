-- The definitions of `isw_gadget`.
--     Pairs      the pairs of shares, numbered
--     Text       the text at an order, byte by byte
--     Says       what a line of the gadget says, share by share
--     Answers    what is told of the text of an order
--     Reads      what reading and the function check tell of the text
pub mod Pairs
pub mod Text
pub mod Says
pub mod Answers
pub mod Reads
