pub mod Heads
pub mod Order
