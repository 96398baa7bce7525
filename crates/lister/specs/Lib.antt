pub mod Listed
pub mod Printed
