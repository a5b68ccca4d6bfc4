-- How far the ranks of a size are covered.
--     Coverage     with one report more, after a pass, after all passes, and over the sizes
pub mod Coverage
