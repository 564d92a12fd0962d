pub mod Plays
pub mod Counting
