-- What the proofs of the exported functions use.
--     Answering   what is told of an answer, put into a status and the lent numbers
--     Ranking     the paths of the functions on wire counts
--     Judging     the paths of the operations on a table
--     Reading     the paths of the operations on a text
--     Measuring   the paths of the function that tells the size of a check
--     Writing     the paths of the function that writes ISW
--     Samples     examples, proved by running the definitions
pub mod Answering
pub mod Ranking
pub mod Judging
pub mod Reading
pub mod Measuring
pub mod Writing
pub mod Samples
