pub mod Steps
pub mod Fitting
pub mod Parts
pub mod Sound
