-- The lemmas behind `directed_search`.
--     Tops       one highest wire after the other
--     Growing    one size after the other
pub mod Tops
pub mod Growing
