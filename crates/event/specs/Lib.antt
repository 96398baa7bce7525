pub mod Head
pub mod Codes
pub mod Gateways
pub mod Decision
pub mod Groups
pub mod Outcomes
pub mod ByKind
pub mod Within
