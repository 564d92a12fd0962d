mod Bodies
mod Fronts
mod Grammar
mod Laws
mod Lebs
mod Modules
pub mod Order
mod Sequences
mod Values
