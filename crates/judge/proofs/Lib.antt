pub mod Verdicts
pub mod Judged
pub mod Vouching
pub mod FullFlush
pub mod Flushes
