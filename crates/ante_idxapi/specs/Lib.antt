pub mod Looked
pub mod Stored
