pub mod Digits
pub mod Stays
pub mod OneCut
pub mod Parsing
pub mod Framed
pub mod Fronts
pub mod Parts
