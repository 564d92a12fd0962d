-- the desk that the driver's data and the links stand for, and what a call promises; then what small calls do
pub mod Shown
pub mod Slots
pub mod Fronts
