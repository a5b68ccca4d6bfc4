-- The definitions of wires.
--     Wires        what a wire computes, sums of wires, dependence, breaking sets
--     Dependence   what dependence means, in values alone
--     Function     whether the outer wires add up to a function of the operands
--     Notions      the numbers that stand for the notions
pub mod Wires
pub mod Dependence
pub mod Function
pub mod Notions
