pub mod Counts
pub mod Events
pub mod Barriers
pub mod Claimed
pub mod Isolation
pub mod Guards
