pub mod Effects
pub mod Releases
pub mod Gateways
