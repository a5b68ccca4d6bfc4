-- The lemmas behind `division`, and the theorems on divisions and on what `job` tells that other crates cite.
pub mod Division
pub mod Conditions
pub mod Entries
pub mod Examples
