pub mod Neighbours
mod LastRow
