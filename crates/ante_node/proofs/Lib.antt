pub mod Walks
pub mod FirstLine
pub mod CommandLine
pub mod Packing
pub mod Endings
