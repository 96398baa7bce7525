pub mod Feeding
pub mod Counting
pub mod Claims
