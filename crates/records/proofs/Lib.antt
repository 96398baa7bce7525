pub mod RecordWords
pub mod Totals
pub mod Fills
pub mod Places
pub mod Slots
pub mod Buffers
