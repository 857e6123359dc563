pub mod Added
pub mod Low
pub mod Counting
pub mod Worlds
pub mod Answers
pub mod Built
pub mod Taking
pub mod Stopping
