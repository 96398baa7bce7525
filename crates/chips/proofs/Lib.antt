pub mod Chips
pub mod Refusals
