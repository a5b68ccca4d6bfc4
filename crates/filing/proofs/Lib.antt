-- How a report is written.
--     Writing     each answer of the two functions
pub mod Writing
