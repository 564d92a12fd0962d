pub mod Looked
pub mod Made
