-- Read Watching, what looks at the pool and the clock make of a seat; then Reads, what a reader brings back.
pub mod Watching
pub mod Stops
pub mod Reads
pub mod Fates
pub mod Schedule
pub mod Windows
pub mod InCore
