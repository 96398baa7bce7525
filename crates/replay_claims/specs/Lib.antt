pub mod Claims
pub mod Isolation
