-- The definitions that the promises of `figure_lines` cite.
--     Figures   the lines of a report in which there is no verdict
pub mod Figures
