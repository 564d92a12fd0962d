-- In the order of reading: the objects, what is looked for among them and how a change leaves them, and how they are kept.
pub mod Objects
pub mod Shown
