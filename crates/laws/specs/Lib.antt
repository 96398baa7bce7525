pub mod Rows
pub mod BitRanges
pub mod Find
pub mod AnyOf
pub mod Filled
