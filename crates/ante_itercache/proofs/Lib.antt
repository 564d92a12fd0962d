pub mod Places
pub mod Keys
pub mod Removed
pub mod Back
