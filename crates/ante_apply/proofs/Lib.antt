mod Modules
pub mod Stops
pub mod Joining
mod Rounds
mod Coming
mod Ends
mod Depths
