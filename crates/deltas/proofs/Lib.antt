pub mod Signed
pub mod Nibbles
pub mod Masks
pub mod Bytes
pub mod Reached
