-- The lemmas behind `records`.
--     Words      laws on the bits of words, which know nothing of wires
--     Fields     the fields of a record, as the code reads them
--     Adding     sums of records
--     Bytes      what stands in which byte of a record, and which records a table has
pub mod Words
pub mod Fields
pub mod Adding
pub mod Bytes
