pub mod Carrying
pub mod HostTypes
pub mod Nodes
pub mod Order
pub mod Own
pub mod Passing
pub mod Places
pub mod Repeating
