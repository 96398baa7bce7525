pub mod RecordWords
pub mod Numbers
pub mod RecordedObjects
