-- What follows from what the entries answer, for all that they accept.
--     Tests        what the tests of a list of reports and of a found rank decide
--     Telling      what a pool tells where no test turns it down
--     Conditions   which call gets which number
--     Saying       what the pool's answers say of the reports
--     Agreeing     what they say of the table, if every clean report is true
--     Filing       what is filed, and that a pool takes it
--     Gathering    the reports of a search that is divided over jobs
--     Taking       what a range check answered, filed, is a report that the pool takes
--     Examples     examples, proved by running the definitions
pub mod Tests
pub mod Telling
pub mod Conditions
pub mod Saying
pub mod Agreeing
pub mod Filing
pub mod Gathering
pub mod Taking
pub mod Examples
