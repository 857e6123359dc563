pub mod Targets
pub mod Emptying
pub mod Telling
