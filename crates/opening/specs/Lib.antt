-- The definitions that the promise of `opening` cites; what `write` writes is in `verdict_answers`.
--     Opening     what the tests that every entry begins with tell
pub mod Opening
