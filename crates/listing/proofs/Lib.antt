pub mod Recorded
pub mod Outcomes
pub mod Isolation
