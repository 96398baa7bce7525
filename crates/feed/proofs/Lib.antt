pub mod Counting
pub mod Feeds
pub mod Within
pub mod Cuts
pub mod Chunked
