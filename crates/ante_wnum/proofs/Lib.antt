pub mod BitStrings
pub mod Operations
pub mod Readings
pub mod Shifts
