-- The lemmas behind `choices`.
--     Gathering   the members of a test, one after the other
--     Marking     marks after a change
--     Settling    the lower of what was kept and of a rank
pub mod Gathering
pub mod Marking
pub mod Settling
