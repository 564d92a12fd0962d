pub mod Sums
mod Walks
mod LeastOver
