pub mod Steps
pub mod Stacks
