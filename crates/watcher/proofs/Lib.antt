-- The theorems on what a watcher sees.
--     Patterns   what the definitions say: settings, patterns
--     Counting   sums and counts over a list
--     Bits       lists of bits: added, as a choice of elements; all lists of a length
--     Halves     an additive test passes on half of a set of bit lists that is closed under addition
--     Shares     the shares that unmasked sums name are few
--     Apart      a pattern that differs is told apart by half of the sums
--     Blind      inputs that agree on those shares give every pattern from equally many settings
--     Needed     what every choice has to hold
--     Choice     which sets admit a choice: not one that breaks, and every one of which no part breaks
--     Samples    small gadgets with a choice and without
pub mod Patterns
pub mod Counting
pub mod Bits
pub mod Halves
pub mod Shares
pub mod Apart
pub mod Blind
pub mod Needed
pub mod Choice
pub mod Samples
