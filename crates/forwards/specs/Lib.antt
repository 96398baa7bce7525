pub mod Forwards
