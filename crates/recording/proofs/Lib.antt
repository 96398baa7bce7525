pub mod Header
pub mod Accepted
pub mod Form
