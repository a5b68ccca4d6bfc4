-- Why the lines are what their definitions say.
--     Saying    the function's name, by what its check told
pub mod Saying
