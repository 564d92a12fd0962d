-- To be read in this order: the iterators of a run; the places that are kept beside their lists.
pub mod Iterators
pub mod Places
