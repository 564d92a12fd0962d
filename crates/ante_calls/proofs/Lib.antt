mod Numbered
mod Iterated
mod Indexed
mod Called
pub mod Replies
