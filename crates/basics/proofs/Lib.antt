-- Facts that know nothing of wires.
--     Tests        tests that pass or fail
--     Folds        laws of folds over a list, and over the numbers below n
--     Conditions   a chain of tests settles its conditions
--     Numbers      induction over numbers, and whether two are alike
pub mod Tests
pub mod Folds
pub mod Conditions
pub mod Numbers
