mod Founded
mod Kept
mod Letters
mod Steps
