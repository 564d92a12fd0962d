pub mod Tree
pub mod Rules
pub mod Finality
pub mod Shown
pub mod Numbers
pub mod Found
pub mod Held
pub mod Paths
