mod Weights
mod NativeExamples
mod Founded
mod Causes
mod CodeRuns
mod Checks
pub mod Replies
