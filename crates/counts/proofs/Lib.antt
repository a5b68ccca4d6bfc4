-- The lemmas behind `counts`, which other crates cite too.
pub mod Lists
pub mod Binomial
pub mod Rows
