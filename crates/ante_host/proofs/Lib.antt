mod Sent
mod Answered
mod Alone
