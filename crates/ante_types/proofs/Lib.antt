pub mod Labels
pub mod Jobs
