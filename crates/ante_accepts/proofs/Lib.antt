mod Deciding
mod Stacks
mod Typing
mod Imports
mod Rules
pub mod Accepted
