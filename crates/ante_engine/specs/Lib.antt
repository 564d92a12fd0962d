pub mod Steps
pub mod Sound
pub mod Founding
pub mod Reading
