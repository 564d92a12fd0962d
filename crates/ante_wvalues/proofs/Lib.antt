pub mod Regions
pub mod Signs
pub mod Plains
pub mod Masks
