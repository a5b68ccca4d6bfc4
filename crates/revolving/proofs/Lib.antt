-- The lemmas behind `revolving`, and the theorems on the order that other crates cite.
pub mod Lists
pub mod Rising
pub mod Revolving
pub mod Unranking
