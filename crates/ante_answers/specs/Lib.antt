-- What is answered to a query, and then what the walks behind it are held to.
pub mod Answers
pub mod Walks
