pub mod Rows
pub mod Escapes
