pub mod Run
pub mod Waits
pub mod Starts
