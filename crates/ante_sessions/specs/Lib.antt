-- In the order of reading: two stacks as one of pairs, a stack seen through a function, and the walk over a map.
pub mod Zipped
pub mod Seen
pub mod Walk
