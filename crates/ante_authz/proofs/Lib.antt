pub mod Walks
pub mod Marked
pub mod Climbing
pub mod Counting
