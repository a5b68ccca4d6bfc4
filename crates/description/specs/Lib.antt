-- What a description text means, as the promises of the reader cite it.
--     Bytes      the bytes of the text, and the longest run that is a symbol
--     Symbols    what a symbol names, how it is spelled, and how a run of bytes is read as one
--     Header     the two header lines
--     Listing    wires as they are listed, and their records
--     Run        the reading of a text, a run over its bytes from left to right
--     Grammar    the grammar: which texts spell which description, and which wires a description has
--     Printing   a description written out, with one space between items
pub mod Bytes
pub mod Symbols
pub mod Header
pub mod Listing
pub mod Run
pub mod Grammar
pub mod Printing
