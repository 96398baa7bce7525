pub mod Refusals
pub mod Flushes
