pub mod Whole
pub mod Deltas
pub mod InPlay
pub mod Meets
pub mod Lowest
pub mod Reach
