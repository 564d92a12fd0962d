pub mod Found
pub mod Removals
