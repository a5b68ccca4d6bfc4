-- The lemmas behind `descent`.
--     Nodes       the node of a child, and of what is left of a node
--     Ending      what is promised where a descent goes no deeper
--     Turning     the turns of the loop over the carriers
--     Turns       the same in the terms of the code
pub mod Nodes
pub mod Ending
pub mod Turning
pub mod Turns
