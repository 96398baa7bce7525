pub mod Searched
pub mod Turns
