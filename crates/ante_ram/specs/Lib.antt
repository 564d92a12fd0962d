-- In the order of reading: what accounts use and may use, how the sum of all is kept, and the search for the first that is over.
pub mod Usage
pub mod Total
pub mod Least
