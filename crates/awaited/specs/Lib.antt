pub mod Search
pub mod First
