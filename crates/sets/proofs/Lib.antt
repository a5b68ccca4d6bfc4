-- The lemmas behind `sets`, and the theorems on what the entries tell that other crates cite.
pub mod Conditions
pub mod Entries
pub mod Examples
