mod Neighbours
mod Bounds
mod Hinted
mod Listed
