-- The theorems on wires.
--     Value        the value of a sum; operands exchanged; inputs that agree
--     Dependence   what dependence means; terms with no bit set
--     Units        what single products, shares and masks are worth
--     Function     the function check
--     Narrow       bits of a record beyond the gadget's own
--     Adding       what a sum of two depends on
--     Breaks       what the breaking test says
--     Changes      what the counts of a set mean
--     Examples     on two shares and one or two masks
pub mod Value
pub mod Dependence
pub mod Units
pub mod Function
pub mod Narrow
pub mod Adding
pub mod Breaks
pub mod Changes
pub mod Examples
