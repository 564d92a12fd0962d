pub mod Machine
pub mod Answers
pub mod Runs
pub mod Sound
pub mod Law
pub mod Shown
pub mod Place
