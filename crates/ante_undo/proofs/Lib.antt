pub mod Entries
pub mod Lists
mod Live
mod Back
mod Moves
mod Ends
mod Held
mod Shelves
mod Sides
