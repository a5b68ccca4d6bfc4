-- What is true of the multiplication of Ishai, Sahai and Wagner.
--     Gadget     the gadget as a description, item by item
--     Pairs      pairs are numbered without a gap or a repeat
--     Sums       sums of numbers and bits
--     Lines      the lines of the gadget, and their bytes
--     Saying     what each line says, share by share
--     Product    the gadget computes the product
--     Symbols    how many symbols it uses
--     Distinct   and how many distinct ones
--     Reading    the text of every order is read, and computes the product
--     Exactly    the text is the one that the request's words describe, and no other
--     Answering  which call gets which number, and what an answer says
--     Samples    examples, proved by running the definitions
pub mod Gadget
pub mod Pairs
pub mod Sums
pub mod Lines
pub mod Saying
pub mod Product
pub mod Symbols
pub mod Distinct
pub mod Reading
pub mod Exactly
pub mod Answering
pub mod Samples
