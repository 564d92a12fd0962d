pub mod Answers
pub mod Quotas
pub mod Tables
