pub mod Acts
pub mod Lines
pub mod Runs
pub mod Small
