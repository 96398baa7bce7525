pub mod Dwords
pub mod Lengths
