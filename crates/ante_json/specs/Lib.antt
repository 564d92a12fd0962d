-- To be read in this order.
-- what a JSON value of each kind stands for
pub mod Kinds
-- how fields are read, and their faults
pub mod Fields
-- what the body of each path may hold: a table for each
pub mod Bodies
-- what bytes of a body are read as
pub mod Reading
-- replies as JSON values
pub mod Replies
