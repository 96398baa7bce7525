pub mod MemberMasks
pub mod Masks
pub mod Waits
pub mod Arrivals
pub mod Messages
