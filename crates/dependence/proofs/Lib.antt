-- How the set dependence meets its promises.
--     Dependence  its answers, path by path
pub mod Dependence
