pub mod Billing
pub mod Orders
