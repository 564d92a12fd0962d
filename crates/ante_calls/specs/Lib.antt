-- To be read in this order: how a call is made up; what a run sees, and the store that a call is lent; what the calls on rows do, with the
-- iterators of `ante_itercache`; the other calls by subject; all calls by their numbers; what every call keeps.
pub mod Calls
pub mod Accounts
pub mod Views
pub mod Kinds
pub mod Rows
pub mod RowReplies
pub mod PrimaryCalls
pub mod IndexCalls
pub mod Control
pub mod ActionData
pub mod Authorization
pub mod Console
pub mod MemoryCalls
pub mod Hashes
pub mod WideIntegers
pub mod ChainState
pub mod System
pub mod Numbers
pub mod Keeping
pub mod RowAnswers
