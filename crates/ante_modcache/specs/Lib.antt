-- Read Modules first: which module is a code's, and what a refusal says. References is what the cache's answer holds.
pub mod Modules
pub mod References
