-- The definitions that demand 3 is stated in.
--     Watcher   mask settings, patterns, inputs that agree, and a choice of shares
pub mod Watcher
