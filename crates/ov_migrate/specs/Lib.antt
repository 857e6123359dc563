pub mod Picked
pub mod Targets
pub mod Steps
