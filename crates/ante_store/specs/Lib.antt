-- Read in this order: what is billed, what a change makes of the world and when it is refused, what a world is, genesis, and then
-- what the store keeps, what a change makes of that, and how its revisions are counted.
pub mod Bills
pub mod Changes
pub mod Worlds
pub mod Genesis
pub mod Shown
pub mod Applied
pub mod Widths
pub mod Later
