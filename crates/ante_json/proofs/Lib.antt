pub mod Empty
pub mod Numbers
pub mod ObjectBodies
pub mod Texts
pub mod Members
