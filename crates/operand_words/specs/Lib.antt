-- The definitions that the promises of `operand_words` cite.
--     Operands     the operands that leak by a set, and what their names say
pub mod Operands
