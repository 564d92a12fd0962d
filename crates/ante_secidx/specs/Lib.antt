-- In the order of reading: secondary keys, the rows of an index and their order, when a row isn't written, and how the
-- rows are kept.
pub mod Keys
pub mod Index
pub mod Faults
pub mod Hints
pub mod Widths
