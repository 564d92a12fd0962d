-- In the order of reading: maps and the stack of maps, which the public calls cite, and then how they are kept.
pub mod Entries
pub mod Stack
pub mod Slots
pub mod Logs
pub mod Kept
