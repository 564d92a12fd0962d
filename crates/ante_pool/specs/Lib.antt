-- Read Seats, what a seat knows and what each call makes of it; then Standing, the rule of the words and all seats; then Pools, what contracts see.
pub mod Seats
pub mod Standing
pub mod Pools
