pub mod Listing
pub mod Prefix
pub mod RecordLines
