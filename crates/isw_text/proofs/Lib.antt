-- What the entry needs.
--     Answering     its answers, each with the whole of its promise
pub mod Answering
