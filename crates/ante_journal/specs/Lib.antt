-- what happens to links and requests
pub mod Desk
