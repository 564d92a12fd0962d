-- In this order: the contract, and what is made of a seed.
pub mod Ledger
pub mod Workload
