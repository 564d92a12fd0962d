-- Codes is which module the code of an account has; Runs what the code of one run answers.
pub mod Codes
pub mod Runs
pub mod Scenes
pub mod Going
