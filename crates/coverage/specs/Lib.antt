-- The definitions that the promises on coverage cite.
--     Coverage     how far the ranks of a size are covered
pub mod Coverage
