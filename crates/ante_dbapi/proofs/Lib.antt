pub mod Faults
pub mod Taken
pub mod Updates
pub mod Walks
