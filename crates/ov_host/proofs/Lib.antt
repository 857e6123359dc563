pub mod Stops
pub mod Writes
