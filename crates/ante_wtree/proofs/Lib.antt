pub mod Replies
pub mod SameKinds
mod Table
