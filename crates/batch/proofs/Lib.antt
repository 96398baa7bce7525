pub mod Entries
pub mod Claimed
pub mod Isolation
