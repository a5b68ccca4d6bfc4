-- What is true of a description text.
--     Running       laws of the run
--     Places        bytes at places of a text
--     Numbers       numbers of masks, and the word that has their bits
--     Names         names of masks, spelled and read
--     Spelling      symbols as they are spelled and as they are read
--     Refusing      which runs of bytes are a mask that is not declared
--     HeaderNames   names in the second header line
--     HeaderLines   the two header lines
--     Events        the events of items, and the wires that they make
--     Encoding      what is encoded is decoded
--     Sums          what sums of symbols mean, and that they fit into a record
--     Fitting       the wires of a description fit into records, and their parts lie in the text
--     Tables        the records of a description's wires as a table
--     Steps         what is done at a byte
--     Passing       the run at a byte
--     After         the state after the items of a group
--     Seeing        the symbols seen, as a sum and as a list
--     Tracing       the run lists the wires of events
--     Following     the run follows items that are spelled
--     Outputs       the run over output lines that are spelled
--     Finding       the rest of a text, where the run over it is done
--     Ends          the text's end and a line's end, where the run is done
--     Found         the output lines that a text spells, where the run is done
--     Unique        a text spells one description
--     Exactly       a text is read exactly when it spells a description within the limits
--     Turning       a text that is turned down before its output lines are read
--     Laying        items at their places in the text that is written of them
--     Printing      what is printed is spelled
--     Joining       items put together
--     Outers        the outer wires of output lines, and their values
--     Distinct      how many distinct symbols a list has
--     Counting      how many wires a description has
--     Samples       examples, proved by running the definitions
pub mod Running
pub mod Places
pub mod Numbers
pub mod Names
pub mod Spelling
pub mod Refusing
pub mod HeaderNames
pub mod HeaderLines
pub mod Events
pub mod Encoding
pub mod Sums
pub mod Fitting
pub mod Tables
pub mod Steps
pub mod Passing
pub mod After
pub mod Seeing
pub mod Tracing
pub mod Following
pub mod Outputs
pub mod Finding
pub mod Ends
pub mod Found
pub mod Unique
pub mod Exactly
pub mod Turning
pub mod Laying
pub mod Printing
pub mod Joining
pub mod Outers
pub mod Distinct
pub mod Counting
pub mod Samples
