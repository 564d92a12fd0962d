mod Turns
mod Jobs
mod Outcomes
mod Readings
mod Recents
mod Sessions
mod Whole
