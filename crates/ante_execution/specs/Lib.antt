-- To be read in this order: authorities, with the data of native actions that they read; native actions, and what a genesis must be; a call as
-- the host makes it, a run, what code does in it; an action with all that it causes; transactions and blocks; what the code of each layer answers.
pub mod Refusals
pub mod NativeData
pub mod Authorities
pub mod Native
pub mod GenesisRules
pub mod Hosts
pub mod Runs
pub mod Codes
pub mod Actions
pub mod Transactions
pub mod Blocks
pub mod Stopping
pub mod Answers
pub mod HostLaws
pub mod CodeLaws
