pub mod Objects
pub mod Recorded
