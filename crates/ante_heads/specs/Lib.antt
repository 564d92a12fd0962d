-- what is said of a read that gave its reply, and what a listener has heard
pub mod Reads
pub mod Hearings
