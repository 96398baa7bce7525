pub mod Gathers
pub mod Runs
pub mod Stages
pub mod Fitted
pub mod Fold
pub mod Stops
pub mod Leaves
