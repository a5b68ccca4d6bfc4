-- Why the line of a notion is what its definition says, and what it says of a watcher.
--     Saying    what the answers tell, as it is written
--     Meaning   what the line says
pub mod Saying
pub mod Meaning
