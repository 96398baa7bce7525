pub mod Steps
pub mod Bounds
pub mod Loops
pub mod Whole
