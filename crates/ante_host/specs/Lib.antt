-- Sending is what the check of a sent action answers; Host what a call leaves of the host; Code what the run of a module answers.
pub mod Sending
pub mod Owned
pub mod Host
pub mod Code
