-- How the pool's C functions meet their promises.
--     Calling     each path of the two functions
--     Reading     what the range check for C wrote is read, filed and pooled
pub mod Calling
pub mod Reading
