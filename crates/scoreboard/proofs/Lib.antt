pub mod Orders
pub mod ByOrder
pub mod Claimed
pub mod Isolation
