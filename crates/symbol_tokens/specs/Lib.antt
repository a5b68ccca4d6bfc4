-- What the promises of `symbol_tokens` cite.
--     Digits    digits of shares
pub mod Digits
